-- The fault that is told of several.
use Rattle.std.proofs.Common.{◌≡◌, ℕ, ◌==◌, Bool, true, false, cond, List, [], ◌∷◌, ◌++◌, Option, Some, None, Contains, refl, sym, ap, subst, ◌∙◌, arith, ⊎_elim}
use Rattle.std.specs.Prelude.{fold, nat_lt, ◌&&◌, ◌||◌, MatchOption}
use Rattle.std.proofs.lemmas.Bool.Decides.{nat_tests}
use Rattle.std.proofs.lemmas.List.{append_assoc, append-nil}
use Rattle.std.proofs.lemmas.List.Elements.{Contains-append_left, Contains-push, Contains-push_cases}
use Rattle.std.proofs.lemmas.List.Sums.{fold-append}
use Rattle.rule_loader.specs.Faults.{after_faults, better, comes_first, number_of, told_of}
use Rattle.rule_loader.specs.Laws.{IsLeast}
use Rattle.rule_loader.specs.declared.load_fault.RuleFault.{RuleFault}
use Rattle.rule_loader.specs.declared.told.Told.{Told}

-- what is told of two lists
pub after_both : (xs ys : List RuleFault) (t : Told) → after_faults (xs ++ ys) t ≡ after_faults ys (after_faults xs t)
after_both xs ys t = ap (λ o. record { fault = o }) (fold-append better t.fault xs ys)

-- ---- the fault that is told is the least

tests_same : (p n : ℕ) → (nat_lt p p || (p == p) && nat_lt n n) ≡ false
tests_same p n = grind (arith, nat_tests)

tests_after : (p q r m n k : ℕ) → (nat_lt p q || (p == q) && nat_lt m n) ≡ true → (nat_lt r q || (r == q) && nat_lt k n) ≡ false
    → (nat_lt r p || (r == p) && nat_lt k m) ≡ false
tests_after p q r m n k first last = grind (arith, nat_tests)

not_itself : (f : RuleFault) → comes_first f f ≡ false
unfolding comes_first
not_itself f = tests_same f.place (number_of f.kind)

not_before : (f e g : RuleFault) → comes_first f e ≡ true → comes_first g e ≡ false → comes_first g f ≡ false
unfolding comes_first
not_before f e g first last = tests_after f.place e.place g.place (number_of f.kind) (number_of e.kind) (number_of g.kind) first last

abbrev pub IsTold : List RuleFault → Option RuleFault → Type 0
IsTold faults o = MatchOption o (faults ≡ []) (IsLeast faults)

one_fault : (f : RuleFault) → IsLeast (f ∷ []) f
one_fault f = record {
  one = Contains-push [] f;
  first = λ g there. ⊎_elim (λ none. let h = none.1 in absurd (omega arith)) (λ same. subst (λ h. comes_first h f ≡ false) same (not_itself f)) (Contains-push_cases [] f g there);
}

in_place : (seen : List RuleFault) (e f : RuleFault) → IsLeast seen e → comes_first f e ≡ true → IsLeast (seen ++ f ∷ []) f
in_place seen e f least first = record {
  one = Contains-push seen f;
  first = λ g there. ⊎_elim (λ before. not_before f e g first (least.first g before)) (λ same. subst (λ h. comes_first h f ≡ false) same (not_itself f)) (Contains-push_cases seen f g there);
}

stays : (seen : List RuleFault) (e f : RuleFault) → IsLeast seen e → comes_first f e ≡ false → IsLeast (seen ++ f ∷ []) e
stays seen e f least later = record {
  one = Contains-append_left seen (f ∷ []) e least.one;
  first = λ g there. ⊎_elim (λ before. least.first g before) (λ same. subst (λ h. comes_first h e ≡ false) same later) (Contains-push_cases seen f g there);
}

one_more : (seen : List RuleFault) (o : Option RuleFault) (f : RuleFault) → IsTold seen o → IsTold (seen ++ f ∷ []) (better o f)
one_more seen None f told = subst (λ l. IsLeast (l ++ f ∷ []) f) (sym told) (one_fault f)
one_more seen (Some e) f told =
    elim (comes_first f e) as (λ b. comes_first f e ≡ b → IsTold (seen ++ f ∷ []) (cond b (Some f) (Some e))) [
      | true ↦ λ first. in_place seen e f told first
      | false ↦ λ later. stays seen e f told later
    ] refl

all_more : (seen : List RuleFault) (o : Option RuleFault) (faults : List RuleFault) → IsTold seen o → IsTold (seen ++ faults) (fold better o faults)
all_more seen o [] told = subst (λ l. IsTold l o) (sym (append-nil seen)) told
all_more seen o (f ∷ faults) told =
    subst (λ l. IsTold l (fold better (better o f) faults)) (append_assoc seen (f ∷ []) faults)
    (all_more (seen ++ f ∷ []) (better o f) faults (one_more seen o f told))

pub least_told : (faults : List RuleFault) → IsTold faults (told_of faults)
least_told faults = all_more [] None faults refl

-- what is told of two lists, one after another
pub told_twice : (xs ys : List RuleFault) (t t1 t2 : Told) → t1 ≡ after_faults xs t → t2 ≡ after_faults ys t1 → t2 ≡ after_faults (xs ++ ys) t
told_twice xs ys t t1 t2 first second = second ∙ ap (after_faults ys) first ∙ sym (after_both xs ys t)
