-- Which schedule is kept.
use Rattle.std.proofs.Common.{◌≡◌, ◌⊎◌, ℕ, ◌<◌, Bool, true, false, List, length, get_or, Option, Some, None, IfSome, inl, inr, refl, sym, subst, ◌∙◌}
use Rattle.std.proofs.lemmas.Option.{IfSome_then, slice_get_read}
use Rattle.tested_runs.specs.Runs.{OneOf}
use Rattle.tested_runs.specs.Schedules.{Keeps, Tells}
use Rattle.tested_runs.proofs.Comes.{At}

-- the one of the start, or one of these, where there is one
abbrev pub Kept : (initial now : Option (List ℕ)) → (List ℕ → Type 0) → Type 0
Kept initial now P = (now ≡ initial) ⊎ IfSome now P

pub one_of : {A : Type 0} (P : A → Type 0) (xs : List A) (i : ℕ) (x : A) → At xs i x → P x → OneOf P xs
one_of P xs i x at has = record { at = i; item = x; there = slice_get_read xs (length xs) i x refl at.within at.is; has = has }

pub told_of : (P : List ℕ → Type 0) (text : List ℕ) (now : Option (List ℕ)) → now ≡ Some text → P text → IfSome now P
told_of P text now is has = subst (λ o. IfSome o P) (sym is) has

-- of one run
pub tells_run : (P : List ℕ → Type 0) (passed : Bool) (old new : Option (List ℕ)) (text : List ℕ)
    → Keeps passed old new text → P text → Tells passed old new P
tells_run P true None new text keeps has = inr (told_of P text new keeps has)
tells_run P true (Some old) new text keeps has = inl (refl, keeps)
tells_run P false old new text keeps has = inr (told_of P text new keeps has)

-- of one more, which passed
pub kept_by : (P Q : List ℕ → Type 0) (initial old new : Option (List ℕ)) → Kept initial old P → Tells true old new Q
    → ((text : List ℕ) → Q text → P text) → Kept initial new P
kept_by P Q initial old new (inl same) (inl (passed, is)) then = inl (is ∙ same)
kept_by P Q initial old new (inr has) (inl (passed, is)) then = inr (subst (λ o. IfSome o P) (sym is) has)
kept_by P Q initial old new before (inr has) then = inr (IfSome_then new has then)

pub all_kept : (P : List ℕ → Type 0) (initial now : Option (List ℕ)) → Kept initial now P → Tells true initial now P
all_kept P initial now (inl same) = inl (refl, same)
all_kept P initial now (inr has) = inr has

-- one failed
pub told_by : (P Q : List ℕ → Type 0) (old new initial : Option (List ℕ)) → Tells false old new Q
    → ((text : List ℕ) → Q text → P text) → Tells false initial new P
told_by P Q old new initial (inl (passed, is)) then = absurd (cc)
told_by P Q old new initial (inr has) then = inr (IfSome_then new has then)

-- of none at the start
pub told_at_end : (P : List ℕ → Type 0) (passed : Bool) (now : Option (List ℕ)) → Tells passed None now P → IfSome now P
told_at_end P passed now (inl (is, none)) = subst (λ o. IfSome o P) (sym none) tt
told_at_end P passed now (inr has) = has
