use Rattle.std.proofs.Common.{◌≡◌, [], drop, get_or, pos, sym, subst, arith, rules, FitsSigned, w64, to_z-of_z}
use Rattle.row_codec.proofs.Common.{CountRow, drop_all, length-drop}
use Rattle.row_codec.proofs.EachWaybill.{Lists, none_listed, one_step, all_listed, rest_is}
use Rattle.row_codec.proofs.listing.waybills_by.Goals as goal

pub loop-start-init : goal.loop-start-init
loop-start-init c = (omega arith, λ counts book rows _. subst (Lists counts book c.args.rows.now) (sym c.new-all.ensures.items) (none_listed counts book c.args.rows.now rows))

pub loop-start-preserved : goal.loop-start-preserved
loop-start-preserved c = (
  omega (arith, c.rows_in_front-count.ensures.within, length-drop c.loop-start.start c.args.rows.now, c.loop-start.invariant.0),
  λ counts book rows are.
      let none : CountRow = record { awb = pos 0; place = pos 0; pieces = pos 0; tenths = pos 0 } in
      let fits : FitsSigned w64 (get_or c.args.rows.now c.loop-start.start none).awb = search rules in
      one_step counts book c.args.rows.now _ c.loop-start.start c.rows_in_front-count.result _ c.loop-start.all.items c.add.new.all.items c.in_ok-one.one none
      c.in_ok-one.ensures.awb c.loop-start-test.true (to_z-of_z fits) (rest_is c.loop-start.start c.args.rows.now) c.rows_in_front-count.ensures.count
      (c.loop-start.invariant.1 counts book rows are) (λ own. c.in_ok-one.ensures.value counts book own are) c.in_ok-add.ensures,
)

pub returns : goal.returns
returns c = λ counts book rows are.
    let over : drop c.loop-start.start c.args.rows.now ≡ [] = drop_all c.loop-start.start c.args.rows.now c.loop-start-test.false in
    all_listed counts book c.loop-start.all.items are (subst (λ l. Lists counts book l c.loop-start.all.items) over (c.loop-start.invariant.1 counts book rows are))
