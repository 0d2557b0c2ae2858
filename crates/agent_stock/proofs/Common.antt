-- The names that proofs of this crate cite, passed on from one place. Declares nothing.
pub use Rattle.agent_stock.specs.Fields.{is_agent_code}
pub use Rattle.agent_stock.specs.Plain.{holders_of}
pub use Rattle.agent_stock.specs.Stock.{AreApart, AreRuns, AreStockRuns, GoesOn, IsMaximalRun, IsNoneFrom, IsRunRow, StandFrom, end_of, holders_by, with_run, Holders, after_order, is_among, is_run, lowest_failing, order_refusal, passes}
pub use Rattle.agent_stock.specs.declared.runs.StockRun.{StockRun}
pub use Rattle.agent_stock.specs.declared.stock.Holder.{Holder}
pub use Rattle.awb_number.specs.Number.{IsNumber, prefix_of, serial_of}
pub use Rattle.std.proofs.Common.{Bool, IfSome, List, None, Option, Some, [], ap, append-nil, arith, cond, drop, false, inl, inr, length, lit<, min, nat_le, nat_lt, not, refl, subst, suc, sym, take, true, true≢false, ℕ, ◌%◌, ◌&&◌, ◌++◌, ◌+◌, ◌-◌, ◌/◌, ◌<◌, ◌^◌, ◌||◌, ◌∙◌, ◌∷◌, ◌≡◌, ◌≢◌, ◌≤◌, ◌⊎◌}
pub use Rattle.std.proofs.lemmas.Bool.Decides.{nat_tests}
pub use Rattle.std.proofs.lemmas.Bool.{and_from, and_parts, cases_lt, cond-false, cond-true, le-leb, leb-true, lt-ltb, ltb-true, or_left, or_right}
pub use Rattle.std.specs.BTreeMap.{get, is_at}
pub use Rattle.std.specs.List.{AllByRecursion, find, list_all, list_any, range_with_len}
pub use Rattle.std.specs.Ordering.{is_eq, nat_cmp}
pub use Rattle.std.specs.Prelude.{IsSome, IsTrue, codes, is_some, map, nat_eq}
pub use Rattle.std.specs.Str.{IsAscii}
