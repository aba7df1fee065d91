-- The fault that is told of several is the first one of the smallest number.
use Rattle.std.proofs.Common.{◌≡◌, ℕ, ◌<◌, ◌≤◌, true, false, cond, List, [], ◌∷◌, ◌++◌, Option, Some}
use Rattle.std.proofs.Common.{None, Contains, refl, sym, ap, subst, ◌∙◌, arith, ⊎_elim, append_assoc}
use Rattle.std.proofs.Common.{append-nil}
use Rattle.std.specs.Prelude.{fold, nat_lt, MatchOption}
use Rattle.std.proofs.lemmas.Bool.{ltb-true}
use Rattle.std.proofs.lemmas.Bool.Decides.{nat_tests}
use Rattle.std.proofs.lemmas.List.Elements.{Contains-append_cases, Contains-push_cases}
use Rattle.config.specs.Faults.{better, told_of}
use Rattle.config.specs.Laws.{IsFirst, number}
use Rattle.config.specs.declared.fault.ConfigFault.{ConfigFault}

abbrev pub IsToldOf : List ConfigFault → Option ConfigFault → Type 0
IsToldOf faults o = MatchOption o (faults ≡ []) (IsFirst faults)

not_less : (m n : ℕ) → nat_lt m n ≡ false → n ≤ m
not_less m n h = grind (arith, nat_tests)

-- no element
none_in : (g : ConfigFault) → Contains [] g → ⊥
none_in g there = let h = there.1 in omega arith

only : (e g : ConfigFault) → Contains (e ∷ []) g → e ≡ g
only e g there = ⊎_elim (λ none. absurd (none_in g none)) (λ same. same) (Contains-push_cases [] e g there)

-- the one so far stays
stays : (seen : List ConfigFault) (e f : ConfigFault) → IsFirst seen e → number e ≤ number f → IsFirst (seen ++ f ∷ []) e
stays seen e f first least = record {
  front = first.front;
  back = first.back ++ f ∷ [];
  one = ap (λ l. l ++ f ∷ []) first.one ∙ append_assoc first.front (e ∷ first.back) (f ∷ []);
  before = first.before;
  behind = λ g there. ⊎_elim (λ old. first.behind g old) (λ same. subst (λ h. number e ≤ number h) same least) (Contains-push_cases first.back f g there);
}

-- all so far have greater numbers
module _ (seen : List ConfigFault) (e f : ConfigFault) (first : IsFirst seen e) (less : number f < number e) where
  behind_it : (g : ConfigFault) → Contains (e ∷ first.back) g → number f < number g
  behind_it g there =
      ⊎_elim (λ it. subst (λ h. number f < number h) (only e g it) less) (λ later. let n = first.behind g later in omega arith) (Contains-append_cases (e ∷ []) first.back g there)

  greater : (g : ConfigFault) → Contains seen g → number f < number g
  greater g there =
      ⊎_elim (λ earlier. let n = first.before g earlier in omega arith) (λ later. behind_it g later)
      (Contains-append_cases first.front (e ∷ first.back) g (subst (λ l. Contains l g) first.one there))

  -- the new one comes in its place
  in_place : IsFirst (seen ++ f ∷ []) f
  in_place = record {
    front = seen;
    back = [];
    one = refl;
    before = greater;
    behind = λ g there. absurd (none_in g there);
  }

alone : (f : ConfigFault) → IsFirst (f ∷ []) f
alone f = record {
  front = [];
  back = [];
  one = refl;
  before = λ g there. absurd (none_in g there);
  behind = λ g there. absurd (none_in g there);
}

one_more : (seen : List ConfigFault) (o : Option ConfigFault) (f : ConfigFault) → IsToldOf seen o → IsToldOf (seen ++ f ∷ []) (better o f)
one_more seen None f told = subst (λ l. IsFirst (l ++ f ∷ []) f) (sym told) (alone f)
one_more seen (Some e) f told =
    elim (nat_lt (number f) (number e)) as (λ b. nat_lt (number f) (number e) ≡ b → IsToldOf (seen ++ f ∷ []) (cond b (Some f) (Some e))) [
      | true ↦ λ less. in_place seen e f told (ltb-true (number f) (number e) less)
      | false ↦ λ more. stays seen e f told (not_less (number f) (number e) more)
    ] refl

all_more : (seen : List ConfigFault) (o : Option ConfigFault) (faults : List ConfigFault) → IsToldOf seen o → IsToldOf (seen ++ faults) (fold better o faults)
all_more seen o [] told = subst (λ l. IsToldOf l o) (sym (append-nil seen)) told
all_more seen o (f ∷ faults) told =
    subst (λ l. IsToldOf l (fold better (better o f) faults)) (append_assoc seen (f ∷ []) faults)
    (all_more (seen ++ f ∷ []) (better o f) faults (one_more seen o f told))

pub first_told : (faults : List ConfigFault) → IsToldOf faults (told_of faults)
first_told faults = all_more [] None faults refl
