-- The calls that one Tick wakes, where it wakes one at most: there is one list of them.
use Rattle.std.proofs.Common.{◌≡◌, refl, sym, ap, subst, ◌∙◌, ℕ, List, [], ◌∷◌, Bool, true, false, nat_eq, Option, Some, None, is_some, if◌then◌else◌}
use Rattle.proxy_core.specs.Calls.{calls_of}
use Rattle.proxy_core.specs.Scheduler.{called_by}
use Rattle.proxy_core.specs.declared.call.Asked.{Asked}
use Rattle.proxy_core.specs.declared.call.Asleep.{Asleep}
use Rattle.proxy_core.proofs.Entries.{calls_front}

there_is : (call : List (List ℕ)) (more : List (List (List ℕ))) (o : Option Asleep) → call ∷ more ≡ called_by o → is_some o ≡ true
there_is call more None e = cc
there_is call more (Some a) e = refl

none_more : (call : List (List ℕ)) (more : List (List (List ℕ))) (o : Option Asleep) → call ∷ more ≡ called_by o → more ≡ []
none_more call more None e = cc
none_more call more (Some a) e = cc

-- the second one too
second_there : (a d : Asked) (xs : List Asked) (o : Option Asleep) → calls_of d.conn (a ∷ d ∷ xs) ≡ called_by o → is_some o ≡ true
second_there a d xs o e = by_test (nat_eq d.conn a.conn) e
  where
    by_test : (b : Bool) → (if b then a.call ∷ calls_of d.conn (d ∷ xs) else calls_of d.conn (d ∷ xs)) ≡ called_by o → is_some o ≡ true
    by_test true k = there_is a.call (calls_of d.conn (d ∷ xs)) o k
    by_test false k = there_is d.call (calls_of d.conn xs) o (sym (calls_front d xs) ∙ k)

module _ (woken : ℕ → Option Asleep) (one : (c d : ℕ) → is_some (woken c) ≡ true → is_some (woken d) ≡ true → c ≡ d) where
  abbrev Lists : List Asked → Type 0
  Lists xs = (c : ℕ) → calls_of c xs ≡ called_by (woken c)

  alone : (a : Asked) (xs : List Asked) → Lists (a ∷ xs) → xs ≡ []
  alone a [] h = refl
  alone a (d ∷ xs) h =
      let first = sym (calls_front a (d ∷ xs)) ∙ h a.conn in
      let same : d.conn ≡ a.conn = one d.conn a.conn (second_there a d xs (woken d.conn) (h d.conn)) (there_is a.call (calls_of a.conn (d ∷ xs)) (woken a.conn) first) in
      let none = none_more a.call (calls_of a.conn (d ∷ xs)) (woken a.conn) first in
      let there : d.call ∷ calls_of d.conn xs ≡ [] = sym (calls_front d xs) ∙ ap (λ n. calls_of n (d ∷ xs)) same ∙ none in cc

  same_first : (a b : Asked) → Lists (a ∷ []) → Lists (b ∷ []) → a ≡ b
  same_first a b h k =
      let make : ℕ → List (List ℕ) → Asked = λ n call. record { conn = n; call = call } in
      let here = sym (calls_front a []) ∙ h a.conn in
      let same : a.conn ≡ b.conn = one a.conn b.conn (there_is a.call [] (woken a.conn) here) (there_is b.call [] (woken b.conn) (sym (calls_front b []) ∙ k b.conn)) in
      let calls : a.call ∷ [] ≡ b.call ∷ [] = here ∙ ap (λ n. called_by (woken n)) same ∙ sym (k b.conn) ∙ calls_front b [] in
      let call : a.call ≡ b.call = cc in
      ap (λ n. make n a.call) same ∙ ap (make b.conn) call

  pub same_calls : (xs ys : List Asked) → Lists xs → Lists ys → xs ≡ ys
  same_calls [] [] h k = refl
  same_calls [] (b ∷ ys) h k = let x : [] ≡ b.call ∷ calls_of b.conn ys = h b.conn ∙ sym (k b.conn) ∙ calls_front b ys in cc
  same_calls (a ∷ xs) [] h k = let x : [] ≡ a.call ∷ calls_of a.conn xs = k a.conn ∙ sym (h a.conn) ∙ calls_front a xs in cc
  same_calls (a ∷ xs) (b ∷ ys) h k =
      let none = alone a xs h in
      let none' = alone b ys k in
      let first = same_first a b (subst (λ l. Lists (a ∷ l)) none h) (subst (λ l. Lists (b ∷ l)) none' k) in
      ap (λ l. a ∷ l) none ∙ ap (λ x. x ∷ []) first ∙ ap (λ l. b ∷ l) (sym none')
