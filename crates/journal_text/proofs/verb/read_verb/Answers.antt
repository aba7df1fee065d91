use Rattle.std.proofs.Common.{◌≡◌, ◌↔◌, Some, subst, sym}
use Rattle.journal_text.specs.Verb.{verb_text}
use Rattle.journal_text.proofs.ByText.{verb_by_text}
use Rattle.journal_text.proofs.verb.read_verb.Goals as goal

pub returns : goal.returns
returns c =
    λ v. subst (λ r. (r ≡ Some v) ↔ (c.args.text.now ≡ verb_text v)) (sym c.first_of_text.ensures) (verb_by_text c.args.text.now v)
