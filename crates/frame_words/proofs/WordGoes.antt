-- What the words of a node come to, from its beginning and behind a part.
use Rattle.std.proofs.Common.{◌≡◌, refl, ap, ◌∙◌, ℕ, ◌+◌, List, [], ◌∷◌, ◌++◌, length, drop, Bool, true, false, cond, nat_lt, add-zero, add_assoc}
use Rattle.std.specs.Prelude.{codes}
use Rattle.px_bytes.specs.FaultText.{too_long}
use Rattle.px_bytes.specs.Limit.{text_limit}
use Rattle.px_bytes.specs.declared.fault.Reply.{Reply}
use Rattle.tcl_trees.specs.Tree.{Tree}
use Rattle.tcl_trees.specs.Tree as tree
use Rattle.tcl_vars.specs.Scopes.{Scopes}
use Rattle.rule_model.specs.Children.{free, one}
use Rattle.rule_model.specs.Evaluator.{eval}
use Rattle.rule_model.specs.Outcome.{Act, state, Ends, then_value}
use Rattle.rule_model.specs.Setting.{Setting, Inner}
use Rattle.rule_model.specs.Words.{after_word, in_order, in_word, told, word_at}
use Rattle.rule_model.specs.declared.code.Code.TheVariants.{Value, Raised}
use Rattle.frames.specs.Children.{all, child_at, parts_of, words_of}
use Rattle.frame_words.specs.FirstWords.{first_cost, first_words, has_words}
use Rattle.frames.specs.Frames.{apply, word_price, words_end}
use Rattle.frame_words.specs.Gathered.{words_out}
use Rattle.frame_words.specs.Pieces.{pieces_cost, pieces_from}
use Rattle.frame_words.specs.Words.{part_price, word_behind, word_behind_cost, with_word, word_unit, words_behind, words_behind_cost, words_cost, words_from}
use Rattle.frames.specs.declared.frame.Frame.TheVariants as frame
use Rattle.frame_words.specs.declared.pieces.Piece.{Piece}
use Rattle.frame_words.specs.declared.pieces.Piece.TheVariants as piece
use Rattle.frame_words.specs.declared.words.Gathered.{Gathered}
use Rattle.frame_words.specs.declared.words.Gathered.TheVariants as gathered
use Rattle.frame_words.proofs.WordMeans.{each, drop_each, each_word, parts_each, part_prices, pieces_are, pieces_proper, prices_by, unit_is, word_by, words_are, words_at, words_each, words_left}

module _ {H : Type 0} (g : Setting H) (i : Inner H) where
  named : (t : Tree) (us : List Tree) (k : ℕ) (name : List ℕ) (p : List ℕ) (vars : Scopes) (h : H)
      (more : List Reply) (budget cost : ℕ) (acts : List Act)
      → in_order (words_end g i t) (each_word g i (word_price t) k us) (name ∷ []) p
      (state vars h more budget (cost + 1) acts)
      ≡ words_out g i t (words_from g.statics vars us k (name ∷ [])) p
      (state vars h more budget (cost + 1 + words_cost (word_unit t) g.statics vars us (name ∷ [])) acts)
      → in_order (words_end g i t) (each_word g i (word_price t) k us) (name ∷ []) p
      (state vars h more budget (cost + 1) acts)
      ≡ words_out g i t (words_from g.statics vars us k (name ∷ [])) p
      (state vars h more budget (cost + (1 + words_cost (word_unit t) g.statics vars us (name ∷ []))) acts)
  named t us k name p vars h more budget cost acts e =
      rw (← add_assoc cost 1 (words_cost (word_unit t) g.statics vars us (name ∷ []))) e

  pub first_are : (t : Tree) (p : List ℕ) (vars : Scopes) (h : H) (more : List Reply) (budget cost : ℕ)
      (acts : List Act) → has_words t ≡ true
      → eval g i t p (state vars h more budget cost acts)
      ≡ words_out g i t (first_words g.statics vars t) p
      (state vars h more budget (cost + first_cost g.statics vars t) acts)
  first_are (tree.command v ts) p vars h more budget cost acts q =
      let t = tree.command v ts in
      ap (λ ms. in_order (words_end g i t) ms [] p (state vars h more budget cost acts))
      (words_each g i one 0 ts)
      ∙ words_are g i t (all ts) 0 (words_at g i t 0 (all ts) refl) [] p vars h more budget cost acts
  first_are (tree.each ts b) p vars h more budget cost acts q =
      let t = tree.each ts b in
      ap (λ ms. in_order (words_end g i t) ms (codes "foreach" ∷ []) p
      (state vars h more budget (cost + 1) acts)) (words_each g i one 0 ts)
      ∙ named t (all ts) 0 (codes "foreach") p vars h more budget cost acts
      (words_are g i t (all ts) 0 (words_at g i t 0 (all ts) refl) (codes "foreach" ∷ []) p vars h more budget
      (cost + 1) acts)
  first_are (tree.switch k ts bs) p vars h more budget cost acts q =
      let t = tree.switch k ts bs in
      ap (λ ms. in_order (words_end g i t) ms (codes "switch" ∷ []) p
      (state vars h more budget (cost + 1) acts)) (words_each g i free 0 ts)
      ∙ named t (all ts) 0 (codes "switch") p vars h more budget cost acts
      (words_are g i t (all ts) 0 (words_at g i t 0 (all ts) refl) (codes "switch" ∷ []) p vars h more budget
      (cost + 1) acts)
  first_are (tree.catch_in b n) p vars h more budget cost acts q =
      let t = tree.catch_in b n in
      ap (λ m. in_order (words_end g i t) (word_at 1 m ∷ []) (codes "catch" ∷ []) p
      (state vars h more budget (cost + 1) acts)) (parts_each g i one n)
      ∙ named t (n ∷ []) 1 (codes "catch") p vars h more budget cost acts
      (words_are g i t (n ∷ []) 1 (refl, refl, tt) (codes "catch" ∷ []) p vars h more budget (cost + 1) acts)
  first_are other p vars h more budget cost acts q = absurd (cc q)

  abbrev with_words : Tree → ℕ → List (List ℕ) → Piece → Scopes → Gathered
  with_words t k done x vars = with_word x (λ all. words_behind g.statics vars t k done all)
      (λ c. gathered.Ends c) (λ part all. gathered.Child k part done all)

  abbrev with_cost : Tree → ℕ → List (List ℕ) → Piece → Scopes → ℕ
  with_cost t k done x vars = with_word x (λ all. words_behind_cost g.statics vars t k done all) (λ c. 0)
      (λ part all. 0)

  behind_by : (t : Tree) (k j : ℕ) (b : Bool) (done : List (List ℕ)) (text : List ℕ) (p : List ℕ)
      (vars : Scopes) (h : H) (more : List Reply) (budget cost : ℕ) (acts : List Act)
      → let u = child_at t k in
      let us = drop (k + 1) (words_of t) in
      let n = part_price (word_unit t) u in
      let ps = drop (j + 1) (parts_of u) in
      then_value (cond b (Ends (Raised too_long) (state vars h more budget cost acts))
      (in_word told (each g i (part_prices (word_price t) u) (j + 1) ps) text (p ++ k ∷ [])
      (state vars h more budget cost acts)))
      (after_word (in_order (words_end g i t) (each_word g i (word_price t) (k + 1) us)) done p)
      ≡ words_out g i t (with_words t k done
      (cond b (piece.Ends (Raised too_long)) (pieces_from g.statics vars ps (j + 1) text)) vars) p
      (state vars h more budget (cost +
      (cond b 0 (pieces_cost n g.statics vars ps text) + with_cost t k done
      (cond b (piece.Ends (Raised too_long)) (pieces_from g.statics vars ps (j + 1) text)) vars)) acts)
  behind_by t k j true done text p vars h more budget cost acts = rw add-zero refl
  behind_by t k j false done text p vars h more budget cost acts =
      let u = child_at t k in
      let us = drop (k + 1) (words_of t) in
      let n = part_price (word_unit t) u in
      let ps = drop (j + 1) (parts_of u) in
      ap (λ o. then_value o (after_word (in_order (words_end g i t) (each_word g i (word_price t) (k + 1) us))
      done p))
      (pieces_are g i u (parts_of u) (part_prices (word_price t) u) n told
      (λ x. prices_by (word_price t) (word_unit t) u x (unit_is t)) ps (j + 1) refl text (p ++ k ∷ []) vars h
      more budget cost acts)
      ∙ word_by g i t u us k (pieces_from g.statics vars ps (j + 1) text)
      (pieces_cost n g.statics vars ps text) (pieces_proper g i vars ps (j + 1) text) refl
      (words_left g i t (k + 1)) (words_are g i t us (k + 1) (words_at g i t (k + 1) us refl)) done p vars h
      more budget cost acts

  pub behind_are : (t : Tree) (k j : ℕ) (done : List (List ℕ)) (text v p : List ℕ) (vars : Scopes) (h : H)
      (more : List Reply) (budget cost : ℕ) (acts : List Act)
      → apply g i t p (frame.Words k j done text) (Ends (Value v) (state vars h more budget cost acts))
      ≡ words_out g i t (word_behind g.statics vars t k j done text v) p
      (state vars h more budget (cost + word_behind_cost g.statics vars t k j done text v) acts)
  behind_are t k j done text v p vars h more budget cost acts =
      let u = child_at t k in
      rw (
        parts_each g i (word_price t) u,
        drop_each g i (part_prices (word_price t) u) (j + 1) (parts_of u),
        words_left g i t (k + 1),
      )
      (behind_by t k j (nat_lt text_limit (length (text ++ v))) done (text ++ v) p vars h more budget cost
      acts)
