-- Which may come next of those that are left.
use Rattle.std.proofs.Common.{◌≡◌, ℕ, suc, ◌==◌, Bool, true, false, cond, ◌||◌, List, [], ◌∷◌, ◌++◌, length, get_or, drop}
use Rattle.std.proofs.Common.{true≢false, inl, inr, refl, sym, ap, ap₂, subst, ◌∙◌, append_assoc, append-nil, length-append, arith}
use Rattle.std.specs.List.{filter, list_any}
use Rattle.std.proofs.lemmas.Bool.{eqb-true, eq-eqb}
use Rattle.std.proofs.lemmas.List.Folds.{list_any-append}
use Rattle.std.proofs.lemmas.List.Elements.{filter-append}
use Rattle.test_orders.specs.Laws.{Among}
use Rattle.test_orders.specs.Orders.{group_of, nexts, stands}
use Rattle.test_orders.proofs.Members.{among_either, among_left, among_right}

-- what is of a group
abbrev pub kept : List ℕ → ℕ → List ℕ → List ℕ
kept groups k xs = filter (λ n. group_of groups n == k) xs

or_parts : (a b : Bool) → (a || b) ≡ false → (a ≡ false) × (b ≡ false)
or_parts true b h = cc
or_parts false b h = (refl, h)

first_one : {X : Type 0} (s : Bool) (q p : X) → Among p (cond s [] (q ∷ [])) → (s ≡ false) × (p ≡ q)
first_one true q p h = absurd h
first_one false q p (inl e) = (refl, e)
first_one false q p (inr h) = absurd h

swap_in : (b : Bool) (n : ℕ) (p q : List ℕ) → (b ≡ true → p ≡ []) → cond b (n ∷ (p ++ q)) (p ++ q) ≡ p ++ cond b (n ∷ q) q
swap_in true n p q h = rw (h refl) refl
swap_in false n p q h = refl

cancel : (b : Bool) (y : ℕ) (p q : List ℕ) → cond b (y ∷ p) p ≡ cond b (y ∷ q) q → p ≡ q
cancel true y p q e = ap (λ l. drop 1 l) e
cancel false y p q e = e

module _ (groups : List ℕ) where
  none_kept : (k n : ℕ) (before : List ℕ) → stands groups n before ≡ false → group_of groups n ≡ k → kept groups k before ≡ []
  none_kept k n [] none same = refl
  none_kept k n (m ∷ ms) none same =
      let parts = or_parts (group_of groups m == group_of groups n) (stands groups n ms) none in
      let no : (group_of groups m == k) ≡ false = ap (λ j. group_of groups m == j) (sym same) ∙ parts.0 in
      ap (λ b. cond b (m ∷ kept groups k ms) (kept groups k ms)) no ∙ none_kept k n ms parts.1 same

  -- one before which none of its group stands may come first
  pub moved : (k n : ℕ) (before ns : List ℕ) → stands groups n before ≡ false → kept groups k (n ∷ (before ++ ns)) ≡ kept groups k (before ++ n ∷ ns)
  moved k n before ns none =
      let test : ℕ → Bool = λ m. group_of groups m == k in
      let b = test n in
      ap (λ l. cond b (n ∷ l) l) (filter-append test before ns)
      ∙ swap_in b n (kept groups k before) (kept groups k ns) (λ h. none_kept k n before none (eqb-true _ _ h))
      ∙ sym (filter-append test before (n ∷ ns))

  pub kept_first : (y : ℕ) (zs : List ℕ) → kept groups (group_of groups y) (y ∷ zs) ≡ y ∷ kept groups (group_of groups y) zs
  kept_first y zs = ap (λ b. cond b (y ∷ kept groups (group_of groups y) zs) (kept groups (group_of groups y) zs))
      (eq-eqb (group_of groups y) (group_of groups y) refl)

  pub nexts_keep : (k : ℕ) (before ns : List ℕ) (p : ℕ × List ℕ) → Among p (nexts groups before ns)
      → kept groups k (p.0 ∷ p.1) ≡ kept groups k (before ++ ns)
  nexts_keep k before [] p a = absurd a
  nexts_keep k before (n ∷ ns) p a =
      elim (among_either p (cond (stands groups n before) [] ((n, before ++ ns) ∷ [])) (nexts groups (before ++ n ∷ []) ns) a) [
        | inl b ↦ let r = first_one (stands groups n before) (n, before ++ ns) p b in
            ap (λ q. kept groups k (q.0 ∷ q.1)) r.1 ∙ moved k n before ns r.0
        | inr b ↦ nexts_keep k (before ++ n ∷ []) ns p b ∙ ap (kept groups k) (append_assoc before (n ∷ []) ns)
      ]

  pub nexts_length : (before ns : List ℕ) (p : ℕ × List ℕ) → Among p (nexts groups before ns) → suc (length p.1) ≡ length (before ++ ns)
  nexts_length before [] p a = absurd a
  nexts_length before (n ∷ ns) p a =
      elim (among_either p (cond (stands groups n before) [] ((n, before ++ ns) ∷ [])) (nexts groups (before ++ n ∷ []) ns) a) [
        | inl b ↦ let r = first_one (stands groups n before) (n, before ++ ns) p b in
            ap (λ q. suc (length q.1)) r.1 ∙ omega (arith, length-append before ns, length-append before (n ∷ ns))
        | inr b ↦ nexts_length (before ++ n ∷ []) ns p b ∙ ap length (append_assoc before (n ∷ []) ns)
      ]

  apart_behind : (y n : ℕ) (before : List ℕ) → stands groups y before ≡ false → (group_of groups n == group_of groups y) ≡ false
      → stands groups y (before ++ n ∷ []) ≡ false
  apart_behind y n before none other =
      list_any-append (λ m. group_of groups m == group_of groups y) before (n ∷ [])
      ∙ ap₂ (λ a b. a || b) none (ap (λ b. b || false) other)

  -- what stands first in an order may come next
  pub nexts_have : (before ns : List ℕ) (y : ℕ) (zs : List ℕ) → stands groups y before ≡ false
      → ((k : ℕ) → kept groups k (y ∷ zs) ≡ kept groups k (before ++ ns))
      → (rest : List ℕ) × Among (y, rest) (nexts groups before ns) × ((k : ℕ) → kept groups k zs ≡ kept groups k rest)
  nexts_have before [] y zs none same =
      let k = group_of groups y in
      let no : kept groups k (y ∷ zs) ≡ [] = same k ∙ ap (kept groups k) (append-nil before) ∙ none_kept k y before none refl in
      absurd (omega (arith, ap length (sym (kept_first y zs) ∙ no)))
  nexts_have before (n ∷ ns) y zs none same =
      let k = group_of groups y in
      elim (group_of groups n == group_of groups y) as (λ b. (group_of groups n == group_of groups y) ≡ b
      → (rest : List ℕ) × Among (y, rest) (nexts groups before (n ∷ ns)) × ((j : ℕ) → kept groups j zs ≡ kept groups j rest)) [
        | true ↦ λ h.
            let like : group_of groups n ≡ group_of groups y = eqb-true _ _ h in
            let new : stands groups n before ≡ false = ap (λ j. list_any (λ m. group_of groups m == j) before) like ∙ none in
            let front : kept groups k (n ∷ (before ++ ns)) ≡ n ∷ kept groups k (before ++ ns) =
            ap (λ b. cond b (n ∷ kept groups k (before ++ ns)) (kept groups k (before ++ ns))) h in
            let is : y ≡ n = ap (λ l. get_or l 0 0) (sym (kept_first y zs) ∙ same k ∙ sym (moved k n before ns new) ∙ front) in
            let there : Among {X = ℕ × List ℕ} (y, before ++ ns) (cond (stands groups n before) [] ((n, before ++ ns) ∷ [])) =
            subst (λ s. Among {X = ℕ × List ℕ} (y, before ++ ns) (cond s [] ((n, before ++ ns) ∷ []))) (sym new) (inl (ap (λ m. (m, before ++ ns)) is)) in (
              before ++ ns,
              among_left (y, before ++ ns) (cond (stands groups n before) [] ((n, before ++ ns) ∷ [])) (nexts groups (before ++ n ∷ []) ns) there,
              λ j. cancel (group_of groups y == j) y (kept groups j zs) (kept groups j (before ++ ns))
                  (same j ∙ sym (moved j n before ns new) ∙ ap (λ m. kept groups j (m ∷ (before ++ ns))) (sym is)),
            )
        | false ↦ λ h.
            let r = nexts_have (before ++ n ∷ []) ns y zs (apart_behind y n before none h)
            (λ j. same j ∙ sym (ap (kept groups j) (append_assoc before (n ∷ []) ns))) in
            (r.0, among_right (y, r.0) (cond (stands groups n before) [] ((n, before ++ ns) ∷ [])) (nexts groups (before ++ n ∷ []) ns) r.1, r.2)
      ] refl

  -- what may come next has none of its group before it
  pub nexts_new : (before ns : List ℕ) (p : ℕ × List ℕ) → Among p (nexts groups before ns) → stands groups p.0 before ≡ false
  nexts_new before [] p a = absurd a
  nexts_new before (n ∷ ns) p a =
      elim (among_either p (cond (stands groups n before) [] ((n, before ++ ns) ∷ [])) (nexts groups (before ++ n ∷ []) ns) a) [
        | inl b ↦ let r = first_one (stands groups n before) (n, before ++ ns) p b in ap (λ q. stands groups q.0 before) r.1 ∙ r.0
        | inr b ↦ (or_parts (stands groups p.0 before) _ (sym (list_any-append (λ m. group_of groups m == group_of groups p.0) before (n ∷ []))
            ∙ nexts_new (before ++ n ∷ []) ns p b)).0
      ]

  -- no two begin with the same
  abbrev pub HeadsApart : List (ℕ × List ℕ) → Type 0
  HeadsApart [] = Unit {0}
  HeadsApart (p ∷ ps) = ((q : ℕ × List ℕ) → Among q ps → p.0 ≡ q.0 → ⊥) × HeadsApart ps

  heads_by : (s : Bool) (p : ℕ × List ℕ) (ps : List (ℕ × List ℕ)) → ((q : ℕ × List ℕ) → Among q ps → p.0 ≡ q.0 → ⊥) → HeadsApart ps
      → HeadsApart (cond s [] (p ∷ []) ++ ps)
  heads_by true p ps apart rest = rest
  heads_by false p ps apart rest = (apart, rest)

  stood : (n m : ℕ) (before : List ℕ) → stands groups m (before ++ n ∷ []) ≡ false → n ≡ m → ⊥
  stood n m before none e =
      let parts = or_parts (stands groups m before) _ (sym (list_any-append (λ j. group_of groups j == group_of groups m) before (n ∷ [])) ∙ none) in
      let no = (or_parts (group_of groups n == group_of groups m) false parts.1).0 in
      true≢false (sym (eq-eqb (group_of groups n) (group_of groups m) (ap (group_of groups) e)) ∙ no)

  pub heads_apart : (before ns : List ℕ) → HeadsApart (nexts groups before ns)
  heads_apart before [] = tt
  heads_apart before (n ∷ ns) = heads_by (stands groups n before) (n, before ++ ns) (nexts groups (before ++ n ∷ []) ns)
      (λ q a e. stood n q.0 before (nexts_new (before ++ n ∷ []) ns q a) e) (heads_apart (before ++ n ∷ []) ns)
