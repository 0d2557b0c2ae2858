-- The rows of sqlite_schema list one schema, whoever reads them; so files hold one database.
use Rattle.station_files.proofs.Common.{Bool, FileStore, Files, Ghosts, HoldsDatabase, Image, Int, IsOurs, IsReadByList, IsSound, List, Object, PageMap, Recovers, Row, Shape, Table, Trees, Value, View, Wanted, [], all_has, ap, ap₂, arith, bytes, coded_list, column, file_trees, get_or, image_of, in_use, index_reals, inl, inr, length, listed_from, map, meets, number_in, plain_adopts, pos, recovers_once, refl, rows_at, shape_code, state, subst, suc, sym, table_reals, true, unordered, unsorted_code, unsorted_plain, version_in, view, wanted_of, with_version, ℕ, ∥∥₁_elim, ◌-◌, ◌<◌, ◌∙◌, ◌∷◌, ◌≡◌}
use Rattle.sqlite_value.specs.contracts.row.Row as row
use base.Stored.{Coded-set}
use Rattle.station_files.proofs.ByList.{pages_of}
use Rattle.sqlite_schema.specs.declared.schema.Schema.{Schema}
use Rattle.sqlite_schema.specs.declared.schema.Table.{Table as TableOf}
use Rattle.sqlite_catalog.specs.Reading.{AreRead, coded_by, IsTableShaped, IsIndexShaped, IsViewShaped}
use Rattle.sqlite_catalog.proofs.ReadLemmas.{read_once}
use Rattle.sqlite_store.specs.Joined.{joined}
use Rattle.sqlite_store.specs.Roots.{has_index_root}
use Rattle.sqlite_store.proofs.AlikeLemmas.{same_file}
use Rattle.sqlite.specs.Opening.{unrooted, unsorted, layout_at, layout_of, shape_of, Suits, HasTree, Knows, Meets, HoldsAt, HoldsIn}

abbrev byte_of : ℕ → Value → ℕ
byte_of at word = get_or (bytes word) at 0

-- the words begin otherwise
suits_once : (rows : List Row) (row : Row) (flag : Bool) (s t : Shape) → Suits rows row flag s → Suits rows row flag t → s ≡ t
suits_once rows row flag s t (inl a) (inl b) = a.1 ∙ sym b.1
suits_once rows row flag s t (inl a) (inr (inl b)) = absurd (elim a.0 [ inl v ↦ omega (arith, ap (byte_of 0) (sym v ∙ b.0)) | inr v ↦ omega (arith, ap (byte_of 0) (sym v ∙ b.0)) ])
suits_once rows row flag s t (inl a) (inr (inr b)) = absurd (elim a.0 [ inl v ↦ omega (arith, ap (byte_of 0) (sym v ∙ b.0)) | inr v ↦ omega (arith, ap (byte_of 1) (sym v ∙ b.0)) ])
suits_once rows row flag s t (inr (inl a)) (inl b) = absurd (elim b.0 [ inl v ↦ omega (arith, ap (byte_of 0) (sym v ∙ a.0)) | inr v ↦ omega (arith, ap (byte_of 0) (sym v ∙ a.0)) ])
suits_once rows row flag s t (inr (inr a)) (inl b) = absurd (elim b.0 [ inl v ↦ omega (arith, ap (byte_of 0) (sym v ∙ a.0)) | inr v ↦ omega (arith, ap (byte_of 1) (sym v ∙ a.0)) ])
suits_once rows row flag s t (inr (inl a)) (inr (inr b)) = absurd (omega (arith, ap (byte_of 0) (sym a.0 ∙ b.0)))
suits_once rows row flag s t (inr (inr a)) (inr (inl b)) = absurd (omega (arith, ap (byte_of 0) (sym a.0 ∙ b.0)))
suits_once rows row flag s t (inr (inl a)) (inr (inl b)) =
    elim a.1 [ inl x ↦ elim b.1 [ inl y ↦ x.1 ∙ sym y.1 | inr y ↦ absurd (y.0 x.0) ] | inr x ↦ elim b.1 [ inl y ↦ absurd (x.0 y.0) | inr y ↦ x.1 ∙ sym y.1 ] ]
suits_once rows row flag s t (inr (inr a)) (inr (inr b)) =
    elim a.1 [ inl x ↦ elim b.1 [ inl y ↦ x.1 ∙ sym y.1 | inr y ↦ absurd (y.0 x.0) ] | inr x ↦ elim b.1 [ inl y ↦ absurd (x.0 y.0) | inr y ↦ x.1 ∙ sym y.1 ] ]

maps_once : {X Y : Type 0} (f g : X → Y) (xs : List X) → ((at : ℕ) (d : X) → at < length xs → f (get_or xs at d) ≡ g (get_or xs at d)) → map f xs ≡ map g xs
maps_once f g [] same = refl
maps_once f g (x ∷ xs) same = ap₂ (λ y ys. y ∷ ys) (same 0 x (omega arith)) (maps_once f g xs (λ at d h. same (suc at) d (omega arith)))

coded_once : (v w : View) (entry : Row) → shape_of v entry ≡ shape_of w entry → coded_by v.shape entry ≡ coded_by w.shape entry
coded_once v w entry same =
    let at = number_in (column entry 0) - 1 in
    let code : unordered (shape_code (v.shape at)) ≡ unordered (shape_code (w.shape at)) = sym (unsorted_code (v.shape at)) ∙ ap (λ s. unordered (shape_code s)) same ∙ unsorted_code (w.shape at) in
    ap (λ n. column entry 0 ∷ column entry 1 ∷ column entry 2 ∷ column entry 3 ∷ column entry 4 ∷ Int (pos n) ∷ []) code

layout_once : (v w : View) (schema : Schema) (entry : Row) → Knows v schema → Knows w schema → HasTree schema entry → shape_of v entry ≡ shape_of w entry → layout_of v entry ≡ layout_of w entry
layout_once v w schema entry a b named same =
    let tree = named.0 in
    let at : number_in (column entry 0) - 1 ≡ tree = omega (arith, ap number_in named.2) in
    subst (λ n. layout_at v n ≡ layout_at w n) (sym at) (elim named.3 [
      | inl it ↦ elim it [
        | inl t ↦
            let x = all_has (IsTableShaped v) schema.tables t.0 a.tables t.1 in
            let y = all_has (IsTableShaped w) schema.tables t.0 b.tables t.1 in
            subst (λ n. layout_at v n ≡ layout_at w n) t.2 (ap₂ (λ s r. (s, r)) (x.0 ∙ sym y.0) (x.1 ∙ sym y.1))
        | inr i ↦
            let x = all_has (IsIndexShaped v schema.tables) schema.indexes i.0 a.indexes i.1 in
            let y = all_has (IsIndexShaped w schema.tables) schema.indexes i.0 b.indexes i.1 in
            let owner : x.1.0 ≡ y.1.0 = (let e = sym x.1.1 ∙ y.1.1 in cc) in
            subst (λ n. layout_at v n ≡ layout_at w n) i.2
            (ap₂ (λ s r. (s, r)) (x.0 ∙ sym y.0) (x.1.2 ∙ ap (λ (t : TableOf). index_reals (table_reals t) i.0.columns) owner ∙ sym y.1.2))
      ]
      | inr it ↦
          let x = all_has (IsViewShaped v) schema.views it.0 a.views it.1 in
          let y = all_has (IsViewShaped w) schema.views it.0 b.views it.1 in
          let here : unsorted (v.shape it.0.tree) ≡ unsorted (w.shape it.0.tree) = subst (λ n. unsorted (v.shape n) ≡ unsorted (w.shape n)) (at ∙ sym it.2) same in
          subst (λ n. layout_at v n ≡ layout_at w n) it.2
          (ap₂ (λ s r. (s, r)) (sym (unsorted_plain _ x.1) ∙ here ∙ unsorted_plain _ y.1) (x.0 ∙ sym y.0))
    ])

listed_once : (s t : Schema) (a b : List Wanted) (rows : List Row) (roots : List Bool) → Meets s a rows roots → Meets t b rows roots → listed_from 0 a ≡ listed_from 0 b
listed_once s t a b rows roots m n =
    let v = m.shown in
    let w = n.shown in
    let shapes = λ (at : ℕ) (d : Row) (h : at < length rows). suits_once rows (get_or rows at d) _ _ _ (m.suit at d h) (n.suit at d h) in
    let r = subst (λ xs. AreRead xs s) (maps_once (coded_by v.shape) (coded_by w.shape) rows (λ at d h. coded_once v w (get_or rows at d) (shapes at d h))) m.read in
    let same : s ≡ t = read_once _ s t r.tables r.indexes r.views n.read in
    let layouts = maps_once (layout_of v) (layout_of w) rows (λ at d h. layout_once v w t (get_or rows at d) (subst (Knows v) same m.knows) n.knows (n.named at d h) (shapes at d h)) in
    sym m.whole ∙ ap (joined rows) layouts ∙ n.whole

-- what files hold they hold once
pub holds_once : (size : ℕ) (image : Image) (mine db : Trees) (schema : Schema) (wanted : List Wanted) (pages : PageMap) → Recovers size image pages → ∥ IsOurs size true wanted pages ∥₁
    → mine ≡ file_trees size wanted pages → IsSound schema mine → HoldsAt size image db → mine ≡ db
holds_once size image mine db schema wanted pages found ours reads sound b =
    let same = recovers_once size image pages b.pages found b.found in
    let listed : listed_from 0 wanted ≡ listed_from 0 b.wanted = ∥∥₁_elim ours (Coded-set (coded_list row.the_row.coded) _ _) (λ o.
    let a : HoldsAt size image mine = record { pages = pages; wanted = wanted; schema = schema; found = found; ours = o; reads = reads; sound = sound } in
    listed_once schema b.schema wanted b.wanted _ _
    (subst (λ p. Meets schema wanted (map unrooted (rows_at size (in_use size p) Table 1)) (map (has_index_root (in_use size p)) (rows_at size (in_use size p) Table 1))) same (meets a)) (meets b)) in
    let r = same_file size b.wanted wanted b.pages listed b.ours in
    reads ∙ ap (λ p. file_trees size wanted p) same ∙ ap (λ x. with_version x (version_in b.pages)) r.1 ∙ sym b.reads

module _ {D : Type 0} {g : Ghosts D} (files : Files D) (objects : List Object) (it : FileStore D g) (schema : Schema) where
  pub held_by_list : IsReadByList files objects it → IsSound schema (view it).trees → (db : Trees) → HoldsDatabase (image_of g files) db → (view it).trees ≡ db
  held_by_list r sound db held =
      let h = subst (λ n. HoldsIn n (image_of g files) db) (r.by.sized held.0 (pages_of (image_of g files) db held)) held.2 in
      holds_once r.by.size (image_of g files) (view it).trees db schema (map wanted_of objects) (state it).committed r.by.found r.by.ours r.by.reads sound
      (record { pages = h.pages; wanted = h.wanted; schema = h.schema; found = plain_adopts r.by.size (image_of g files) h.pages r.by.plain h.found; ours = h.ours; reads = h.reads; sound = h.sound })
