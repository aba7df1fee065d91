-- From the longest node behind a byte to the longest with it.
use Rattle.std.proofs.Common.{◌≡◌, ℕ, suc, ◌≤◌, ◌<◌, List, [], ◌∷◌, length, Some, None, get_or}
use Rattle.std.proofs.Common.{refl, sym, ap, subst, ◌∙◌, arith, ⊎_elim}
use Rattle.std.proofs.lemmas.Bool.{cases_eq, cases_lt}
use Rattle.tcl_strings.specs.Automaton.{Entries, edge_at, IsPrefix, text_at, IsLongest, HasParent, IsAutomaton}
use Rattle.tcl_strings.proofs.Prefixes.{prefix_self, prefix_size, prefix_trans, prefix_within, prefix_whole}

-- a node from which the search goes on: no node with which the text begins is longer by more than the byte
pub record IsCandidate (texts : List (List ℕ)) (c : ℕ) (w : List ℕ) (x : ℕ) : Type 0 where
  pub within : x < length texts
  pub begins : IsPrefix (text_at texts x) w
  pub longest : (k : ℕ) → k < length texts → IsPrefix (text_at texts k) (c ∷ w) → length (text_at texts k) ≤ suc (length (text_at texts x))

-- a node is the longest with which its own text begins
pub longest_self : (texts : List (List ℕ)) (n x : ℕ) (t : List ℕ) → x < n → text_at texts x ≡ t → IsLongest texts n t x
longest_self texts n x t h is = record {
  within = h;
  begins = subst (λ v. IsPrefix v t) (sym is) (prefix_self t);
  longest = λ k kn begins. omega (arith, ap length is, prefix_size (text_at texts k) t begins);
}

module _ (texts : List (List ℕ)) (links : List ℕ) (edges : Entries) (sound : IsAutomaton texts links edges) where
  no_text : (j c : ℕ) (v : List ℕ) → j ≡ 0 → text_at texts j ≡ c ∷ v → ⊥
  no_text j c v zero_is is =
      let e : [] ≡ c ∷ v = sym sound.root ∙ ap (text_at texts) (sym zero_is) ∙ is in cc

  pub edge_of : (j u c : ℕ) → j < length texts → u < length texts → text_at texts j ≡ c ∷ text_at texts u → edge_at edges u c ≡ Some j
  edge_of j u c jn un is =
      ⊎_elim
      (λ e. absurd (no_text j c (text_at texts u) e is))
      (λ ne.
      let p : HasParent texts edges j = sound.parents j (omega arith) jn in
      let both : p.byte ∷ text_at texts p.parent ≡ c ∷ text_at texts u = sym p.is ∙ is in
      let byte : p.byte ≡ c = cc in
      let text : text_at texts p.parent ≡ text_at texts u = cc in
      let node : p.parent ≡ u = sound.distinct p.parent u (omega (arith, p.before)) un text in
      ap (λ n. edge_at edges n c) (sym node) ∙ ap (λ b. edge_at edges p.parent b) (sym byte) ∙ p.edge)
      (cases_eq j 0)

  -- a bound on a node with which the text begins, from what the node behind its first byte is
  by_parent : (k c : ℕ) (w : List ℕ) (limit : ℕ) → k < length texts → IsPrefix (text_at texts k) (c ∷ w) → ((u : ℕ) → u < length texts → text_at texts k ≡ c ∷ text_at texts u → IsPrefix (text_at texts u) w → edge_at edges u c ≡ Some k → length (text_at texts k) ≤ limit) → length (text_at texts k) ≤ limit
  by_parent k c w limit kn begins go =
      ⊎_elim
      (λ e. omega (arith, ap length (ap (text_at texts) e ∙ sound.root)))
      (λ ne.
      let p : HasParent texts edges k = sound.parents k (omega arith) kn in
      let parts : (p.byte ≡ c) × IsPrefix (text_at texts p.parent) w = subst (λ t. IsPrefix t (c ∷ w)) p.is begins in
      let un : p.parent < length texts = omega (arith, p.before) in
      let is : text_at texts k ≡ c ∷ text_at texts p.parent = p.is ∙ ap (λ b. b ∷ text_at texts p.parent) parts.0 in
      go p.parent un is parts.1 (edge_of k p.parent c kn un is))
      (cases_eq k 0)

  pub started : (c : ℕ) (w : List ℕ) (x : ℕ) → IsLongest texts (length texts) w x → IsCandidate texts c w x
  started c w x h = record {
    within = h.within;
    begins = h.begins;
    longest = λ k kn begins. by_parent k c w (suc (length (text_at texts x))) kn begins (λ u un is pre edge. omega (arith, ap length is, h.longest u un pre));
  }

  pub found : (c : ℕ) (w : List ℕ) (x i : ℕ) → IsCandidate texts c w x → edge_at edges x c ≡ Some i → IsLongest texts (length texts) (c ∷ w) i
  found c w x i h edge =
      let to = sound.leads x c i edge in
      record {
        within = to.1;
        begins = subst (λ t. IsPrefix t (c ∷ w)) (sym to.2) (refl, h.begins);
        longest = λ k kn begins. omega (arith, ap length to.2, h.longest k kn begins);
      }

  pub stopped : (c : ℕ) (w : List ℕ) (x : ℕ) → IsCandidate texts c w x → x ≡ 0 → edge_at edges x c ≡ None → IsLongest texts (length texts) (c ∷ w) 0
  stopped c w x h root none =
      let empty : text_at texts x ≡ [] = ap (text_at texts) root ∙ sound.root in
      record {
        within = sound.rooted;
        begins = subst (λ t. IsPrefix t (c ∷ w)) (sym sound.root) tt;
        longest = λ k kn begins. by_parent k c w (length (text_at texts 0)) kn begins (λ u un is pre edge.
            let size = h.longest k kn begins in
            let text : text_at texts u ≡ text_at texts x = prefix_whole (text_at texts u) (text_at texts x) (prefix_within (text_at texts u) (text_at texts x) w pre h.begins (omega (arith, size, ap length is))) (omega (arith, ap length empty)) in
            let node : u ≡ x = sound.distinct u x un h.within text in
            let clash : Some k ≡ None = sym edge ∙ ap (λ n. edge_at edges n c) node ∙ none in
            absurd (cc));
      }

  pub followed : (c : ℕ) (w : List ℕ) (x : ℕ) → IsCandidate texts c w x → 0 < x → edge_at edges x c ≡ None → IsCandidate texts c w (get_or links x 0) × (get_or links x 0 < x)
  followed c w x h some none =
      let back : IsLongest texts x (text_at texts x) (get_or links x 0) = sound.links_back x some h.within in (
        record {
          within = omega (arith, back.within, h.within);
          begins = prefix_trans (text_at texts (get_or links x 0)) (text_at texts x) w back.begins h.begins;
          longest = λ k kn begins. by_parent k c w (suc (length (text_at texts (get_or links x 0)))) kn begins (λ u un is pre edge.
              let size : length (text_at texts u) ≤ length (text_at texts x) = omega (arith, h.longest k kn begins, ap length is) in
              let inside : IsPrefix (text_at texts u) (text_at texts x) = prefix_within (text_at texts u) (text_at texts x) w pre h.begins size in
              ⊎_elim
              (λ less. omega (arith, ap length is, back.longest u less inside))
              (λ more.
              let text : text_at texts u ≡ text_at texts x = prefix_whole (text_at texts u) (text_at texts x) inside (sound.rising x u more un) in
              let node : u ≡ x = sound.distinct u x un h.within text in
              let clash : Some k ≡ None = sym edge ∙ ap (λ n. edge_at edges n c) node ∙ none in
              absurd (cc))
              (cases_lt u x));
        },
        back.within,
      )
