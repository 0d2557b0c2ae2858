-- What the check of a body answers.
use Rattle.http_desk.proofs.Common.{IsCheckAsked, IsSaid, IsTrue, List, Verb, ap, bad_data, compact_text, good_data, inl, inr, list_all, looks_at, refl, ℕ, ◌≡◌}
use Rattle.imp_fields.specs.Fields.{is_printable}
use Rattle.desk_commands.specs.declared.command.Command.{Command}

pub good_asked : (verb : Verb) (bytes text : List ℕ) (command : Command) → IsSaid verb bytes command → text ≡ compact_text good_data → IsCheckAsked verb bytes (looks_at text)
good_asked verb bytes text command said is = (good_data, inl (command, said, refl), ap looks_at is)

pub bad_asked : (verb : Verb) (bytes text reason : List ℕ) → ((command : Command) → ¬ (IsSaid verb bytes command)) → IsTrue (list_all is_printable reason) → text ≡ compact_text (bad_data reason) → IsCheckAsked verb bytes (looks_at text)
bad_asked verb bytes text reason none shown is = (bad_data reason, inr (none, (reason, shown, refl)), ap looks_at is)
