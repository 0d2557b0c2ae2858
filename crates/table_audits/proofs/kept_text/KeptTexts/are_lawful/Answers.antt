use Rattle.table_audits.proofs.KeptTextLaws.{as_many, as_many_back, found_so, texts_so}
use Rattle.table_audits.proofs.kept_text.KeptTexts.are_lawful.Goals as goal

pub returns-then-self : goal.returns-then-self
returns-then-self c = record {
  exact = λ t listed rows law at same is taken. (
    λ h. texts_so t listed c.args.parts.now rows c.args.self.now law at same is taken c.if-self.true (as_many _ _ h),
    λ laws. as_many_back _ _ (found_so t listed c.args.parts.now rows c.args.self.now law at same is taken laws),
  );
}
