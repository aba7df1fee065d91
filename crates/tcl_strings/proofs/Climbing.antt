-- Keys that are entered from their ends.
use Rattle.std.proofs.Common.{◌≡◌, ℕ, zero, suc, ◌+◌, ◌-◌, ◌≤◌, ◌<◌, inl, inr, List, [], ◌∷◌, ◌++◌, length, map, take, drop, get_or, Bor}
use Rattle.std.proofs.Common.{refl, sym, ap, subst, ◌∙◌, arith, ⊎_elim}
use Rattle.std.specs.List.{All, Contains}
use Rattle.std.proofs.lemmas.List.{map-append, drop_all, length-drop, drop-drop, take_all}
use Rattle.std.proofs.lemmas.List.Elements.{All-more, All-weaker, All-map, All-contains, Contains-append_left, Contains-push}
use Rattle.tcl_strings.specs.declared.levels.Climb.{Climb}
use Rattle.tcl_strings.specs.Automaton.{text_at, Grows}
use Rattle.tcl_strings.specs.Levels.{IsAtDepth, HasNode, keys_at, IsOnItsWay, longest_length}

key_in : (level : List Climb) (climb : Climb) → Contains (keys_at (level ++ climb ∷ [])) climb.key.now
key_in level climb =
    subst (λ keys. Contains keys climb.key.now) (sym (map-append (λ (x : Climb). x.key.now) level (climb ∷ []))) (Contains-push (keys_at level) climb.key.now)

module _ (nodes more : List (List ℕ)) (grows : Grows nodes more) where
  pub node_still : (t : List ℕ) → HasNode nodes t → HasNode more t
  node_still t h = record {
    node = h.node;
    within = omega (arith, grows.size, h.within);
    is = grows.kept h.node h.within ∙ h.is;
  }

  pub depth_still : (depth : ℕ) (climb : Climb) → IsAtDepth nodes depth climb → IsAtDepth more depth climb
  depth_still depth climb h = record {
    within = omega (arith, grows.size, h.within);
    more = h.more;
    is = grows.kept climb.node h.within ∙ h.is;
  }

  pub way_still : (level : List Climb) (key : List ℕ) → IsOnItsWay nodes level key → IsOnItsWay more level key
  way_still level key = ⊎_elim (λ h. inl (node_still key h)) (λ h. inr h)

way_longer : (nodes : List (List ℕ)) (level more : List Climb) (key : List ℕ) → IsOnItsWay nodes level key → IsOnItsWay nodes (level ++ more) key
way_longer nodes level more key =
    ⊎_elim (λ h. inl h) (λ h. inr (subst (λ keys. Contains keys key) (sym (map-append (λ (x : Climb). x.key.now) level more)) (Contains-append_left (keys_at level) (keys_at more) key h)))

-- the last byte but `depth` of a key is entered too
module _ (nodes : List (List ℕ)) (depth : ℕ) (key : Bor (List ℕ)) (node : ℕ) (less : depth < length key.now) (within : node < length nodes) (is : text_at nodes node ≡ drop (length key.now - depth - 1) key.now) where
  pub entered : length key.now ≤ depth + 1 → HasNode nodes key.now
  entered last = record {
    node = node;
    within = within;
    is = is ∙ ap (λ n. drop n key.now) (let none : length key.now - depth - 1 ≡ 0 = omega arith in none);
  }

  pub risen : depth + 1 < length key.now → IsAtDepth nodes (depth + 1) (record { key = key; node = node })
  risen more = record {
    within = within;
    more = more;
    is = is ∙ ap (λ n. drop n key.now) (let same : length key.now - depth - 1 ≡ length key.now - (depth + 1) = omega arith in same);
  }

-- what holds of the keys so far, with one more key
module _ {X : Type 0} (key_of : X → List ℕ) (nodes more : List (List ℕ)) (grows : Grows nodes more) (xs : List X) (i : ℕ) (d : X) (within : i < length xs) (next : List Climb) (done : All (λ x. IsOnItsWay nodes next (key_of x)) (take i xs)) where
  pub whole_with : HasNode more (key_of (get_or xs i d)) → All (λ x. IsOnItsWay more next (key_of x)) (take (i + 1) xs)
  whole_with here =
      All-more (λ x. IsOnItsWay more next (key_of x)) xs i d within
      (All-weaker (λ x. IsOnItsWay nodes next (key_of x)) (λ x. IsOnItsWay more next (key_of x)) (λ x h. way_still nodes more grows next (key_of x) h) (take i xs) done)
      (inl here)

  pub whole_on : (climb : Climb) → climb.key.now ≡ key_of (get_or xs i d) → All (λ x. IsOnItsWay more (next ++ climb ∷ []) (key_of x)) (take (i + 1) xs)
  whole_on climb is =
      All-more (λ x. IsOnItsWay more (next ++ climb ∷ []) (key_of x)) xs i d within
      (All-weaker (λ x. IsOnItsWay nodes next (key_of x)) (λ x. IsOnItsWay more (next ++ climb ∷ []) (key_of x))
      (λ x h. way_longer more next (climb ∷ []) (key_of x) (way_still nodes more grows next (key_of x) h)) (take i xs) done)
      (inr (subst (λ k. Contains (keys_at (next ++ climb ∷ [])) k) is (key_in next climb)))

pub no_growth : (nodes : List (List ℕ)) → Grows nodes nodes
no_growth nodes = record { size = omega arith; kept = λ k h. refl }

-- a key that had no byte entered yet
pub first_risen : (key : Bor (List ℕ)) → 0 < length key.now → IsAtDepth ([] ∷ []) 0 (record { key = key; node = 0 })
first_risen key some = record {
  within = omega arith;
  more = some;
  is = sym (drop_all (length key.now - 0) key.now (omega arith));
}

pub first_entered : (key : List ℕ) → length key ≡ 0 → HasNode ([] ∷ []) key
first_entered [] none = record { node = 0; within = omega arith; is = refl }
first_entered (c ∷ cs) none = absurd (omega arith)

-- a key that is on its way in a level is on its way in the next
pub way_on : (nodes more : List (List ℕ)) → Grows nodes more → (level next : List Climb) → All (λ climb. IsOnItsWay more next climb.key.now) level → (key : List ℕ) → IsOnItsWay nodes level key → IsOnItsWay more next key
way_on nodes more grows level next whole key =
    ⊎_elim (λ h. inl (node_still nodes more grows key h))
    (λ h. All-contains (IsOnItsWay more next) (keys_at level) key (All-map (IsOnItsWay more next) (λ (climb : Climb). climb.key.now) level whole) h)

-- none is on its way where each has more bytes than the longest
pub way_ended : (nodes : List (List ℕ)) (depth : ℕ) (level : List Climb) → All (IsAtDepth nodes depth) level → (key : List ℕ) → length key ≤ depth → IsOnItsWay nodes level key → HasNode nodes key
way_ended nodes depth level deep key short =
    ⊎_elim (λ h. h)
    (λ h.
    let more = All-contains (λ k. depth < length k) (keys_at level) key (All-map (λ k. depth < length k) (λ (climb : Climb). climb.key.now) level (λ k d kn. (deep k d kn).more)) h in
    absurd (omega (arith, more)))

pub grown : (nodes more most : List (List ℕ)) → Grows nodes more → Grows more most → Grows nodes most
grown nodes more most h g = record {
  size = omega (arith, h.size, g.size);
  kept = λ k less. g.kept k (omega (arith, h.size)) ∙ h.kept k less;
}

-- what `&key[n..]` is
pub from_place : (n : ℕ) (key : List ℕ) → take (length key - n) (drop n key) ≡ drop n key
from_place n key = take_all (length key - n) (drop n key) (omega (arith, length-drop n key))

-- what is behind the first byte of `&text[place - 1..]`
pub behind_place : (place : ℕ) (text : List ℕ) → 0 < place → drop place text ≡ drop 1 (take (length text - (place - 1)) (drop (place - 1) text))
behind_place place text some =
    let again : place - 1 + 1 ≡ place = omega arith in
    sym (ap (drop 1) (from_place (place - 1) text) ∙ drop-drop 1 (place - 1) text ∙ ap (λ n. drop n text) again)

pub within_longest : (keys : List (Bor (List ℕ))) (k : ℕ) (d : Bor (List ℕ)) → k < length keys → length (get_or keys k d).now ≤ longest_length (map (λ x. x.now) keys)
within_longest [] k d h = absurd (omega arith)
within_longest (key ∷ keys) zero d h = omega arith
within_longest (key ∷ keys) (suc k) d h = let rest = within_longest keys k d (omega arith) in omega arith
