-- One more node behind the others.
use Rattle.std.proofs.Common.{◌≡◌, ◌≢◌, ℕ, ◌+◌, ◌≤◌, ◌<◌, List, [], ◌∷◌, ◌++◌, length, Some, None, get_or}
use Rattle.std.proofs.Common.{sym, ap, subst, ◌∙◌, arith, ⊎_elim, length-append}
use Rattle.std.proofs.lemmas.Bool.{cases_eq, cases_lt}
use Rattle.std.proofs.lemmas.List.{get_or_append_left, get_or_push}
use Rattle.tcl_strings.specs.Automaton.{Entries, edge_at, IsPrefix, text_at, IsLongest, HasParent, IsAutomaton, IsUpTo, Grows}
use Rattle.tcl_strings.proofs.Stepping.{edge_of}

-- a node with what it is made of: the node behind its first byte, and its link
pub record IsNew (texts : List (List ℕ)) (edges more_edges : Entries) (u c l : ℕ) (t : List ℕ) : Type 0 where
  pub behind : u < length texts
  pub is : t ≡ c ∷ text_at texts u
  pub none : edge_at edges u c ≡ None
  pub link : IsLongest texts (length texts) t l
  pub tallest : IsUpTo texts (length t)
  pub here : edge_at more_edges u c ≡ Some (length texts)
  pub others : (n b : ℕ) → (n ≡ u → b ≢ c) → edge_at more_edges n b ≡ edge_at edges n b

module _ (texts : List (List ℕ)) (t : List ℕ) where
  size_by : length (texts ++ t ∷ []) ≡ length texts + 1
  size_by = length-append texts (t ∷ [])

  old : (k : ℕ) → k < length texts → text_at (texts ++ t ∷ []) k ≡ text_at texts k
  old k h = get_or_append_left texts (t ∷ []) [] k h

  pub newest : (k : ℕ) → k ≡ length texts → text_at (texts ++ t ∷ []) k ≡ t
  newest k e = get_or_push texts t [] k (sym e)

  pub grows_by : Grows texts (texts ++ t ∷ [])
  grows_by = record { size = omega (arith, size_by); kept = old }

  pub tallest_by : IsUpTo texts (length t) → IsUpTo (texts ++ t ∷ []) (length t)
  tallest_by tallest k h =
      ⊎_elim
      (λ less. omega (arith, ap length (old k less), tallest k less))
      (λ more. omega (arith, ap length (newest k (omega (arith, size_by)))))
      (cases_lt k (length texts))

  longest_still : (n : ℕ) (w : List ℕ) (x : ℕ) → n ≤ length texts → IsLongest texts n w x → IsLongest (texts ++ t ∷ []) n w x
  longest_still n w x le h = record {
    within = h.within;
    begins = subst (λ v. IsPrefix v w) (sym (old x (omega (arith, h.within)))) h.begins;
    longest = λ k kn begins.
        let kept = old k (omega arith) in
        let size = h.longest k kn (subst (λ v. IsPrefix v w) kept begins) in
        omega (arith, size, ap length kept, ap length (old x (omega (arith, h.within))));
  }

module _ (texts : List (List ℕ)) (links : List ℕ) (edges more_edges : Entries) (sound : IsAutomaton texts links edges) (u c l : ℕ) (t : List ℕ) (new : IsNew texts edges more_edges u c l t) where
  apart : (n b i : ℕ) → edge_at edges n b ≡ Some i → n ≡ u → b ≢ c
  apart n b i edge e = λ f.
      let clash : Some i ≡ None = sym edge ∙ ap (λ m. edge_at edges m b) e ∙ ap (λ d. edge_at edges u d) f ∙ new.none in cc

  parents_by : (i : ℕ) → 0 < i → i < length (texts ++ t ∷ []) → HasParent (texts ++ t ∷ []) more_edges i
  parents_by i some h =
      ⊎_elim
      (λ less.
      let p : HasParent texts edges i = sound.parents i some less in
      let before : p.parent < length texts = omega (arith, p.before) in
      record {
        parent = p.parent;
        byte = p.byte;
        before = p.before;
        is = old texts t i less ∙ p.is ∙ ap (λ v. p.byte ∷ v) (sym (old texts t p.parent before));
        edge = new.others p.parent p.byte (apart p.parent p.byte i p.edge) ∙ p.edge;
      })
      (λ more.
      let at : i ≡ length texts = omega (arith, size_by texts t) in
      record {
        parent = u;
        byte = c;
        before = omega (arith, new.behind);
        is = newest texts t i at ∙ new.is ∙ ap (λ v. c ∷ v) (sym (old texts t u new.behind));
        edge = new.here ∙ ap Some (sym at);
      })
      (cases_lt i (length texts))

  abbrev Leads : ℕ → ℕ → ℕ → Type 0
  Leads n b i = (n < length (texts ++ t ∷ [])) × (i < length (texts ++ t ∷ [])) × (text_at (texts ++ t ∷ []) i ≡ b ∷ text_at (texts ++ t ∷ []) n)

  leads_old : (n b i : ℕ) → (n ≡ u → b ≢ c) → edge_at more_edges n b ≡ Some i → Leads n b i
  leads_old n b i other edge =
      let to = sound.leads n b i (sym (new.others n b other) ∙ edge) in
      (omega (arith, size_by texts t, to.0), omega (arith, size_by texts t, to.1), old texts t i to.1 ∙ to.2 ∙ ap (λ v. b ∷ v) (sym (old texts t n to.0)))

  leads_new : (n b i : ℕ) → n ≡ u → b ≡ c → edge_at more_edges n b ≡ Some i → Leads n b i
  leads_new n b i e f edge =
      let to : Some (length texts) ≡ Some i = sym new.here ∙ ap (λ m. edge_at more_edges m c) (sym e) ∙ ap (λ d. edge_at more_edges n d) (sym f) ∙ edge in
      let at : i ≡ length texts = cc in
      let before : n < length texts = omega (arith, new.behind) in
      let text : text_at (texts ++ t ∷ []) n ≡ text_at texts u = old texts t n before ∙ ap (text_at texts) e in
      (omega (arith, size_by texts t), omega (arith, size_by texts t), newest texts t i at ∙ new.is ∙ ap (λ d. d ∷ text_at texts u) (sym f) ∙ ap (λ v. b ∷ v) (sym text))

  leads_by : (n b i : ℕ) → edge_at more_edges n b ≡ Some i → Leads n b i
  leads_by n b i edge =
      ⊎_elim
      (λ e. ⊎_elim (λ f. leads_new n b i e f edge) (λ f. leads_old n b i (λ _. f) edge) (cases_eq b c))
      (λ e. leads_old n b i (λ h. absurd (e h)) edge)
      (cases_eq n u)

  fresh : (j : ℕ) → j < length texts → t ≢ text_at texts j
  fresh j jn same =
      let clash : Some j ≡ None = sym (edge_of texts links edges sound j u c jn new.behind (sym same ∙ new.is)) ∙ new.none in cc

  distinct_by : (i j : ℕ) → i < length (texts ++ t ∷ []) → j < length (texts ++ t ∷ []) → text_at (texts ++ t ∷ []) i ≡ text_at (texts ++ t ∷ []) j → i ≡ j
  distinct_by i j hi hj same =
      ⊎_elim
      (λ i_less.
      ⊎_elim
      (λ j_less. sound.distinct i j i_less j_less (sym (old texts t i i_less) ∙ same ∙ old texts t j j_less))
      (λ j_more. absurd (fresh i i_less (sym (newest texts t j (omega (arith, size_by texts t))) ∙ sym same ∙ old texts t i i_less)))
      (cases_lt j (length texts)))
      (λ i_more.
      ⊎_elim
      (λ j_less. absurd (fresh j j_less (sym (newest texts t i (omega (arith, size_by texts t))) ∙ same ∙ old texts t j j_less)))
      (λ j_more. omega (arith, size_by texts t))
      (cases_lt j (length texts)))
      (cases_lt i (length texts))

  rising_by : (i j : ℕ) → i ≤ j → j < length (texts ++ t ∷ []) → length (text_at (texts ++ t ∷ []) i) ≤ length (text_at (texts ++ t ∷ []) j)
  rising_by i j le h =
      ⊎_elim
      (λ less.
      let before : i < length texts = omega arith in
      omega (arith, ap length (old texts t i before), ap length (old texts t j less), sound.rising i j le less))
      (λ more.
      let within : i < length (texts ++ t ∷ []) = omega arith in
      omega (arith, ap length (newest texts t j (omega (arith, size_by texts t))), tallest_by texts t new.tallest i within))
      (cases_lt j (length texts))

  links_by : (i : ℕ) → 0 < i → i < length (texts ++ t ∷ []) → IsLongest (texts ++ t ∷ []) i (text_at (texts ++ t ∷ []) i) (get_or (links ++ l ∷ []) i 0)
  links_by i some h =
      ⊎_elim
      (λ less.
      let within : i < length links = omega (arith, sound.linked) in
      let at_text = subst (λ v. IsLongest (texts ++ t ∷ []) i v (get_or links i 0)) (sym (old texts t i less)) (longest_still texts t i (text_at texts i) (get_or links i 0) (omega arith) (sound.links_back i some less)) in
      subst (λ x. IsLongest (texts ++ t ∷ []) i (text_at (texts ++ t ∷ []) i) x) (sym (get_or_append_left links (l ∷ []) 0 i within)) at_text)
      (λ more.
      let at : i ≡ length texts = omega (arith, size_by texts t) in
      let at_text = subst (λ v. IsLongest (texts ++ t ∷ []) (length texts) v l) (sym (newest texts t i at)) (longest_still texts t (length texts) t l (omega arith) new.link) in
      let at_node = subst (λ n. IsLongest (texts ++ t ∷ []) n (text_at (texts ++ t ∷ []) i) l) (sym at) at_text in
      subst (λ x. IsLongest (texts ++ t ∷ []) i (text_at (texts ++ t ∷ []) i) x) (sym (get_or_push links l 0 i (sound.linked ∙ sym at))) at_node)
      (cases_lt i (length texts))

  pub sound_by : IsAutomaton (texts ++ t ∷ []) (links ++ l ∷ []) more_edges
  sound_by = record {
    linked = omega (arith, size_by texts t, length-append links (l ∷ []), sound.linked);
    rooted = omega (arith, size_by texts t, sound.rooted);
    root = old texts t 0 sound.rooted ∙ sound.root;
    parents = parents_by;
    leads = leads_by;
    distinct = distinct_by;
    rising = rising_by;
    links_back = links_by;
  }
