-- Rows that are printed as they come, after the tries that began them.
use Rattle.desk_client.proofs.Common.{AskFault, Bool, Err, Form, Given, HasPrinted, HasPrintedBody, HasReadOn, List, PrintFault, Response, Result, RunFault, Talk, ap, body_of, by_time, call_ended, false, last_after, service_fault, subst, true, ℕ, ◌∙◌, ◌≡◌}
use Rattle.desk_client.specs.declared.ask.AskFault.TheVariants as fault
use Rattle.desk_client.specs.declared.reading.LastTry.TheVariants as last
use Rattle.desk_client.specs.declared.printing.PrintFault.TheVariants as print

-- a reader whose time ran out has failed
timed : (f : Form) (body : List ℕ) (read_old read_new old new : Given) (late : Bool) (e : AskFault) → HasPrintedBody f body read_old read_new old new (Err (print.Rest e))
    → HasPrintedBody f body read_old read_new old new (Err (print.Rest (by_time late e)))
timed f body read_old read_new old new true fault.Read is = is
timed f body read_old read_new old new true _ is = is
timed f body read_old read_new old new false e is = is

pub printed : (f : Form) (a : Response) (body : List ℕ) (talk_old talk_new : Talk) (old new : Given) (r : Result (Unit {0}) PrintFault) (result : Result Bool RunFault)
    → body ≡ body_of a → HasPrintedBody f body talk_old.come talk_new.come old new r → HasReadOn talk_old talk_new → talk_new.last ≡ last_after r talk_old.last
    → result ≡ call_ended r → HasPrinted f a talk_old talk_new old new result
printed f a body talk_old talk_new old new r result body_is is same last_is ends = record {
  ended = r;
  body = subst (λ (l : List ℕ). HasPrintedBody f l talk_old.come talk_new.come old new r) body_is is;
  same = same;
  last_is = last_is;
  result_is = ends;
}

pub broken : (f : Form) (a : Response) (body : List ℕ) (talk_old talk_new : Talk) (old new : Given) (late : Bool) (e other : AskFault) (result : Result Bool RunFault)
    → body ≡ body_of a → HasPrintedBody f body talk_old.come talk_new.come old new (Err (print.Rest e)) → HasReadOn talk_old talk_new
    → other ≡ by_time late e → talk_new.last ≡ last.Failed other → result ≡ Err (service_fault other)
    → HasPrinted f a talk_old talk_new old new result
broken f a body talk_old talk_new old new late e other result body_is is same other_is last_is ends =
    printed f a body talk_old talk_new old new (Err (print.Rest (by_time late e))) result body_is (timed f body talk_old.come talk_new.come old new late e is) same
    (last_is ∙ ap (λ (x : AskFault). last.Failed x) other_is) (ends ∙ ap (λ (x : AskFault). Err (service_fault x)) other_is)
