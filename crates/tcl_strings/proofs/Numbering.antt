-- The first key with which a text begins, from the nodes that are keys.
use Rattle.std.proofs.Common.{◌≡◌, ◌≢◌, ℕ, zero, suc, ◌+◌, ◌-◌, ◌<◌, Bool, true, false, cond, ◌||◌, List, [], ◌∷◌, ◌++◌, length, take, drop, get_or, set}
use Rattle.std.proofs.Common.{refl, sym, ap, subst, ◌∙◌, arith, ⊎_elim, length-append}
use Rattle.std.specs.Prelude.{min, bytes_eq}
use Rattle.std.specs.List.{All}
use Rattle.std.proofs.lemmas.Bool.{cases_eq, cases_lt, or_cases, or_left, or_right, false_from_ne_true}
use Rattle.std.proofs.lemmas.List.{get_or-set_same, get_or-set_other, get_or_append_left, get_or_push, drop_more}
use Rattle.std.proofs.lemmas.List.Elements.{All-head, All-tail}
use Rattle.std.proofs.lemmas.Slice.Eq.{bytes_eq-Decides}
use Rattle.tcl_strings.specs.Search.{begins_with}
use Rattle.tcl_strings.specs.Automaton.{Entries, IsPrefix, text_at, IsLongest, HasParent, IsAutomaton}
use Rattle.tcl_strings.specs.Levels.{HasNode}
use Rattle.tcl_strings.specs.FirstKeys.{first_number, same_number, IsTable, IsOwn, IsFirst, IsLeast}
use Rattle.tcl_strings.proofs.Prefixes.{prefix_self, prefix_size, prefix_trans, prefix_within, prefix_whole}

prefix_of_take : (k w : List ℕ) → k ≡ take (length k) w → IsPrefix k w
prefix_of_take [] w e = tt
prefix_of_take (a ∷ k) [] e = cc
prefix_of_take (a ∷ k) (b ∷ w) e =
    let same : k ≡ take (length k) w = cc in
    let byte : a ≡ b = cc in
    (byte, prefix_of_take k w same)

take_of_prefix : (k w : List ℕ) → IsPrefix k w → k ≡ take (length k) w
take_of_prefix [] w h = refl
take_of_prefix (a ∷ k) [] h = absurd h
take_of_prefix (a ∷ k) (b ∷ w) h = ap (λ x. x ∷ k) h.0 ∙ ap (λ t. b ∷ t) (take_of_prefix k w h.1)

begins_is : (k w : List ℕ) → begins_with k w ≡ true → (0 < length k) × IsPrefix k w
begins_is [] w h = absurd (let clash : false ≡ true = h in cc)
begins_is (a ∷ k) w h = (omega arith, prefix_of_take (a ∷ k) w ((bytes_eq-Decides (a ∷ k) (take (length (a ∷ k)) w)).0 h))

begins_from : (k w : List ℕ) → 0 < length k → IsPrefix k w → begins_with k w ≡ true
begins_from [] w some h = absurd (omega arith)
begins_from (a ∷ k) w some h = (bytes_eq-Decides (a ∷ k) (take (length (a ∷ k)) w)).1 (take_of_prefix (a ∷ k) w h)

same_tests : (a b : Bool) → (a ≡ true → b ≡ true) → (b ≡ true → a ≡ true) → a ≡ b
same_tests true b to from = sym (to refl)
same_tests false true to from = from refl
same_tests false false to from = refl

none_begins : (keys : List (List ℕ)) → first_number keys [] ≡ length keys
none_begins [] = refl
none_begins ([] ∷ keys) = ap suc (none_begins keys)
none_begins ((a ∷ k) ∷ keys) = ap suc (none_begins keys)

least_of : (b c : Bool) (m n p : ℕ) → m ≡ min n p → cond (b || c) 0 (suc m) ≡ min (cond b 0 (suc n)) (cond c 0 (suc p))
least_of true c m n p e = omega arith
least_of false true m n p e = omega arith
least_of false false m n p e = omega arith

same_here : (key w : List ℕ) (keys : List (List ℕ)) → key ≡ w → same_number (key ∷ keys) w ≡ 0
same_here key w keys e = ap (λ b. cond b 0 (suc (same_number keys w))) ((bytes_eq-Decides key w).1 e)

same_later : (key w : List ℕ) (keys : List (List ℕ)) → key ≢ w → same_number (key ∷ keys) w ≡ suc (same_number keys w)
same_later key w keys ne = ap (λ b. cond b 0 (suc (same_number keys w))) (false_from_ne_true (bytes_eq key w) (λ t. ne ((bytes_eq-Decides key w).0 t)))

-- the longest node with which a node's text begins is it
pub longest_is : (texts : List (List ℕ)) (w : List ℕ) (x : ℕ) → IsLongest texts (length texts) w x → HasNode texts w → text_at texts x ≡ w
longest_is texts w x h node =
    let size = h.longest node.node node.within (subst (λ t. IsPrefix t w) (sym node.is) (prefix_self w)) in
    prefix_whole (text_at texts x) w h.begins (omega (arith, size, ap length node.is))

module _ (texts : List (List ℕ)) (links : List ℕ) (edges : Entries) (sound : IsAutomaton texts links edges) where
  -- a text and its longest node begin with the same keys
  pub longest_number : (w : List ℕ) (x : ℕ) → IsLongest texts (length texts) w x → (keys : List (List ℕ)) → All (HasNode texts) keys → first_number keys w ≡ first_number keys (text_at texts x)
  longest_number w x is [] nodes = refl
  longest_number w x is (k ∷ keys) nodes =
      let here : HasNode texts k = All-head (HasNode texts) k keys nodes in
      let same : begins_with k w ≡ begins_with k (text_at texts x) =
      same_tests (begins_with k w) (begins_with k (text_at texts x))
      (λ e.
      let b = begins_is k w e in
      let size = is.longest here.node here.within (subst (λ t. IsPrefix t w) (sym here.is) b.1) in
      begins_from k (text_at texts x) b.0 (prefix_within k (text_at texts x) w b.1 is.begins (omega (arith, size, ap length here.is))))
      (λ e.
      let b = begins_is k (text_at texts x) e in
      begins_from k w b.0 (prefix_trans k (text_at texts x) w b.1 is.begins)) in
      ap (λ b. cond b 0 (suc (first_number keys w))) same
      ∙ ap (λ n. cond (begins_with k (text_at texts x)) 0 (suc n)) (longest_number w x is keys (All-tail (HasNode texts) k keys nodes))

  module _ (i : ℕ) (some : 0 < i) (within : i < length texts) where
    link_begins : (k : List ℕ) → HasNode texts k → begins_with k (text_at texts i) ≡ (bytes_eq k (text_at texts i) || begins_with k (text_at texts (get_or links i 0)))
    link_begins k node =
        let w = text_at texts i in
        let v = text_at texts (get_or links i 0) in
        let back : IsLongest texts i w (get_or links i 0) = sound.links_back i some within in
        let p : HasParent texts edges i = sound.parents i some within in
        same_tests (begins_with k w) (bytes_eq k w || begins_with k v)
        (λ e.
        let b = begins_is k w e in
        let size = prefix_size k w b.1 in
        ⊎_elim
        (λ less.
        let before : node.node < i = ⊎_elim (λ h. h) (λ more. absurd (omega (arith, sound.rising i node.node more node.within, ap length node.is))) (cases_lt node.node i) in
        let bound = back.longest node.node before (subst (λ t. IsPrefix t w) (sym node.is) b.1) in
        or_right (bytes_eq k w) (begins_with k v) (begins_from k v b.0 (prefix_within k v w b.1 back.begins (omega (arith, bound, ap length node.is)))))
        (λ more. or_left (bytes_eq k w) (begins_with k v) ((bytes_eq-Decides k w).1 (prefix_whole k w b.1 more)))
        (cases_lt (length k) (length w)))
        (λ e.
        ⊎_elim
        (λ f.
        let same : k ≡ w = (bytes_eq-Decides k w).0 f in
        begins_from k w (omega (arith, ap length same, ap length p.is)) (subst (λ t. IsPrefix k t) same (prefix_self k)))
        (λ f.
        let b = begins_is k v f in
        begins_from k w b.0 (prefix_trans k v w b.1 back.begins))
        (or_cases (bytes_eq k w) (begins_with k v) e))

    link_number : (keys : List (List ℕ)) → All (HasNode texts) keys → first_number keys (text_at texts i) ≡ min (same_number keys (text_at texts i)) (first_number keys (text_at texts (get_or links i 0)))
    link_number [] nodes = refl
    link_number (k ∷ keys) nodes =
        ap (λ b. cond b 0 (suc (first_number keys (text_at texts i)))) (link_begins k (All-head (HasNode texts) k keys nodes))
        ∙ least_of (bytes_eq k (text_at texts i)) (begins_with k (text_at texts (get_or links i 0))) (first_number keys (text_at texts i)) (same_number keys (text_at texts i)) (first_number keys (text_at texts (get_or links i 0)))
        (link_number keys (All-tail (HasNode texts) k keys nodes))

  module _ (keys : List (List ℕ)) (nodes : All (HasNode texts) keys) (own least : List ℕ) (is_own : IsOwn texts keys own) (is_least : IsLeast links own least) where
    first_below : (n i : ℕ) → i < n → i < length texts → get_or least i 0 ≡ first_number keys (text_at texts i)
    first_below zero i less within = absurd (omega arith)
    first_below (suc n) i less within =
        ⊎_elim
        (λ e. ap (λ j. get_or least j 0) e ∙ is_least.root ∙ is_own.root ∙ sym (ap (first_number keys) (ap (text_at texts) e ∙ sound.root) ∙ none_begins keys))
        (λ ne.
        let some : 0 < i = omega arith in
        let back : IsLongest texts i (text_at texts i) (get_or links i 0) = sound.links_back i some within in
        let before = first_below n (get_or links i 0) (omega (arith, back.within)) (omega (arith, back.within)) in
        is_least.at i some (omega (arith, is_own.size))
        ∙ ap (λ m. min m (get_or least (get_or links i 0) 0)) (is_own.at i some within)
        ∙ ap (λ m. min (same_number keys (text_at texts i)) m) before
        ∙ sym (link_number i some within keys nodes))
        (cases_eq i 0)

    pub firsts_from : IsFirst texts keys least
    firsts_from = record {
      size = is_least.size ∙ is_own.size;
      at = λ i within. first_below (suc i) i (omega arith) within;
    }

  -- one more key, before the others
  pub own_step : (keys : List (List ℕ)) (own : List ℕ) (number node : ℕ) → number < length keys → node < length texts → text_at texts node ≡ get_or keys number [] → length own ≡ length texts → ((i : ℕ) → i < length texts → get_or own i 0 ≡ number + 1 + same_number (drop (number + 1) keys) (text_at texts i)) → (i : ℕ) → i < length texts → get_or (set own node number) i 0 ≡ number + same_number (drop number keys) (text_at texts i)
  own_step keys own number node key_within node_within is size done i within =
      let key = get_or keys number [] in
      let rest = drop (number + 1) keys in
      let front : drop number keys ≡ key ∷ rest = drop_more keys number [] key_within in
      ⊎_elim
      (λ e.
      let at : node < length own = omega arith in
      let new : get_or (set own node number) i 0 ≡ number = ap (λ j. get_or (set own node number) j 0) e ∙ get_or-set_same own node number 0 at in
      let none : same_number (drop number keys) (text_at texts i) ≡ 0 =
      ap (λ ks. same_number ks (text_at texts i)) front ∙ same_here key (text_at texts i) rest (sym is ∙ ap (text_at texts) (sym e)) in
      omega (arith, new, none))
      (λ ne.
      let old : get_or (set own node number) i 0 ≡ get_or own i 0 = get_or-set_other own node i number 0 ne in
      let later : same_number (drop number keys) (text_at texts i) ≡ suc (same_number rest (text_at texts i)) =
      ap (λ ks. same_number ks (text_at texts i)) front
      ∙ same_later key (text_at texts i) rest (λ same. ne (sound.distinct i node within node_within (sym same ∙ sym is))) in
      omega (arith, old, later, done i within))
      (cases_eq i node)

size_more : (numbers : List ℕ) (n : ℕ) → length (numbers ++ n ∷ []) ≡ length numbers + 1
size_more numbers n = length-append numbers (n ∷ [])

table_still : (keys : List (List ℕ)) (numbers : List ℕ) (n : ℕ) (cs : List ℕ) → IsTable keys numbers cs → IsTable keys (numbers ++ n ∷ []) cs
table_still keys numbers n [] h = tt
table_still keys numbers n (c ∷ cs) h =
    (omega (arith, h.0, size_more numbers n), get_or_append_left numbers (n ∷ []) 0 (length cs) h.0 ∙ h.1, table_still keys numbers n cs h.2)

pub table_push : (keys : List (List ℕ)) (numbers : List ℕ) (n c : ℕ) (cs : List ℕ) → IsTable keys numbers cs → length numbers ≡ length cs → n ≡ first_number keys (c ∷ cs) → IsTable keys (numbers ++ n ∷ []) (c ∷ cs)
table_push keys numbers n c cs h size is =
    (omega (arith, size, size_more numbers n), get_or_push numbers n 0 (length cs) size ∙ is, table_still keys numbers n cs h)

pub table_behind : (keys : List (List ℕ)) (numbers : List ℕ) (n : ℕ) (text : List ℕ) → IsTable keys numbers text → IsTable keys numbers (drop n text)
table_behind keys numbers zero text h = h
table_behind keys numbers (suc n) [] h = tt
table_behind keys numbers (suc n) (c ∷ cs) h = table_behind keys numbers n cs h.2

pub table_front : (keys : List (List ℕ)) (numbers : List ℕ) (text : List ℕ) → 0 < length text → IsTable keys numbers text → (length text - 1 < length numbers) × (get_or numbers (length text - 1) 0 ≡ first_number keys text)
table_front keys numbers [] some h = absurd (omega arith)
table_front keys numbers (c ∷ cs) some h =
    let at : length (c ∷ cs) - 1 ≡ length cs = omega arith in
    (omega (arith, h.0), ap (λ n. get_or numbers n 0) at ∙ h.1)
