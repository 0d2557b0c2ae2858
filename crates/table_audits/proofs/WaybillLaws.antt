-- The rows of `waybill2` are lawful exactly where the table is.
use Rattle.table_audits.proofs.Common.{AreWaybills, IfSome, IsLawfulAmount, None, Option, RisesByNumber, Some, Tables, Waybill, all_both, all_from_test, and_from, and_parts, ap, declared_by, get_by, int_le, is_lawful_waybill, is_number, is_waybill_row, is_within, list_all, natural, option_map, pos, refl, subst, test_from_all, true, waybill_id, ℕ, ◌∙◌, ◌≡◌}
use Rattle.table_audits.proofs.Each.{found_holds, both_lists, each_by_number, natural_again, amount_of, amount_back}

-- its number, its pieces and its weight
pub in_range : (x : Waybill) → is_waybill_row x ≡ true → (is_number x.awb ≡ true) × (is_within 1 9999 x.pieces ≡ true) × (is_within 0 999_999 x.tenths ≡ true)
in_range x h =
    let a = (and_parts _ _ (and_parts _ _ (and_parts _ _ h).0).0).0 in
    let b = and_parts _ _ a in
    let c = and_parts _ _ b.0 in
    ((and_parts _ _ (and_parts _ _ c.0).0).0, c.1, b.1)

module _ (t : Tables) where
  pub are_waybills : list_all is_lawful_waybill t.waybills ≡ true → AreWaybills t
  are_waybills all = record { rows = (both_lists is_waybill_row (λ x. int_le x.pieces x.tenths) t.waybills all).0; amounts = λ w. go w (get_by waybill_id t.waybills (pos w)) refl }
    where
      go : (w : ℕ) (o : Option Waybill) → get_by waybill_id t.waybills (pos w) ≡ o → IfSome (option_map declared_by o) (λ d. IsLawfulAmount d.pieces d.tenths)
      go w None is = tt
      go w (Some x) is =
          let h = and_parts (is_waybill_row x) (int_le x.pieces x.tenths) (found_holds (λ row. is_lawful_waybill row ≡ true) _ t.waybills x (all_from_test is_lawful_waybill t.waybills all) is) in
          let r = in_range x h.0 in
          amount_of x.pieces x.tenths r.1 r.2 h.1

  pub lawful_waybills : RisesByNumber t.waybills → AreWaybills t → list_all is_lawful_waybill t.waybills ≡ true
  lawful_waybills up law = test_from_all is_lawful_waybill t.waybills (all_both (λ x. is_waybill_row x ≡ true) (λ x. get_by waybill_id t.waybills (waybill_id x) ≡ Some x) (λ x. is_lawful_waybill x ≡ true)
      (λ x h is. let r = in_range x h in
      let here : get_by waybill_id t.waybills (pos (natural x.awb)) ≡ Some x = ap (get_by waybill_id t.waybills) (natural_again 0 9_999_999_999 x.awb r.0) ∙ is in
      and_from _ _ h (amount_back x.pieces x.tenths r.1 r.2 (subst (λ o. IfSome (option_map declared_by o) (λ d. IsLawfulAmount d.pieces d.tenths)) here (law.amounts (natural x.awb)))))
      t.waybills (all_from_test is_waybill_row t.waybills law.rows) (each_by_number waybill_id t.waybills up))
