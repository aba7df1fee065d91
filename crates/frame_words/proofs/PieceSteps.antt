-- One piece or one word more.
use Rattle.std.proofs.Common.{◌≡◌, refl, ◌∙◌, sym, ℕ, ◌+◌, List, [], ◌∷◌, ◌++◌, length, nat_lt, Bool, true, false, cond, Option, Some, None, arith}
use Rattle.std.specs.Prelude.{sum_by, not}
use Rattle.px_bytes.specs.FaultText.{too_long}
use Rattle.px_bytes.specs.Limit.{text_limit}
use Rattle.rule_model.specs.declared.code.Code.{Code}
use Rattle.rule_model.specs.declared.code.Code.TheVariants.{Value, Raised, Return, Break, Continue}
use Rattle.tcl_trees.specs.Tree.{Tree}
use Rattle.tcl_vars.specs.Scopes.{Level, Scopes}
use Rattle.frames.specs.Children.{parts_of}
use Rattle.frames.specs.Leafs.{leaf_code}
use Rattle.frames.specs.Owed.{is_flat}
use Rattle.frame_words.specs.Pieces.{add_piece, added_end, added_text, pieces_cost, pieces_from}
use Rattle.frame_words.specs.Words.{part_price, words_cost, words_from}
use Rattle.frame_words.specs.declared.pieces.Piece.TheVariants as piece
use Rattle.frame_words.specs.declared.words.Gathered.TheVariants as words

-- words that don't fit, and words that do
pub too_long_by : (x b : Bool) → x ≡ not b → x ≡ false → b ≡ true
too_long_by x true e f = refl
too_long_by x false e f = absurd (cc (sym e ∙ f))

pub short_by : (x b : Bool) → x ≡ not b → x ≡ true → b ≡ false
short_by x false e f = refl
short_by x true e f = absurd (cc (sym e ∙ f))

end_within : {A : Type 0} (b : Bool) (c : Code) (x : A) (other : Code → A)
    → Some c ≡ cond b (Some (Raised too_long)) None → cond b (other (Raised too_long)) x ≡ other c
end_within true c x other h = let s : c ≡ Raised too_long = cc h in rw s refl
end_within false c x other h = absurd (cc h)

-- a text that ends so
end_of : {A : Type 0} (code c : Code) (text : List ℕ) (go : List ℕ → A) (other : Code → A)
    → Some c ≡ added_end code text → add_piece code text go other ≡ other c
end_of (Value v) c text go other h =
    end_within (nat_lt text_limit (length (text ++ v))) c (go (text ++ v)) other h
end_of (Raised f) c text go other h = let s : c ≡ Raised f = cc h in rw s refl
end_of (Return v) c text go other h = let s : c ≡ Return v = cc h in rw s refl
end_of Break c text go other h = let s : c ≡ Break = cc h in rw s refl
end_of Continue c text go other h = let s : c ≡ Continue = cc h in rw s refl

more_within : {A : Type 0} (b : Bool) (x y : A) → None ≡ cond b (Some (Raised too_long)) None → cond b y x ≡ x
more_within true x y h = absurd (cc h)
more_within false x y h = refl

-- one that goes on
more_of : {A : Type 0} (code : Code) (text : List ℕ) (go : List ℕ → A) (other : Code → A)
    → None ≡ added_end code text → add_piece code text go other ≡ go (added_text code text)
more_of (Value v) text go other h =
    more_within (nat_lt text_limit (length (text ++ v))) (go (text ++ v)) (other (Raised too_long)) h
more_of another text go other h = absurd (cc h)

module _ (level : Option Level) (vars : Scopes) (t : Tree) (ts us : List Tree) (k : ℕ) (e : us ≡ t ∷ ts) where
  pub piece_child : (text : List ℕ) → is_flat t ≡ false
      → pieces_from level vars us k text ≡ piece.Child k text
  piece_child text f = rw (e, f) refl

  pub piece_ends : (text : List ℕ) (c : Code) → is_flat t ≡ true
      → Some c ≡ added_end (leaf_code level vars t) text → pieces_from level vars us k text ≡ piece.Ends c
  piece_ends text c f h = rw (e, f)
      (end_of (leaf_code level vars t) c text (λ all. pieces_from level vars ts (k + 1) all)
      (λ d. piece.Ends d) h)

  pub piece_more : (text : List ℕ) → is_flat t ≡ true → None ≡ added_end (leaf_code level vars t) text
      → pieces_from level vars us k text
      ≡ pieces_from level vars ts (k + 1) (added_text (leaf_code level vars t) text)
  piece_more text f h = rw (e, f)
      (more_of (leaf_code level vars t) text (λ all. pieces_from level vars ts (k + 1) all)
      (λ d. piece.Ends d) h)

  pub word_child : (done : List (List ℕ)) (j : ℕ) (text : List ℕ)
      → pieces_from level vars (parts_of t) 0 [] ≡ piece.Child j text
      → words_from level vars us k done ≡ words.Child k j done text
  word_child done j text h = rw (e, h) refl

  pub word_ends : (done : List (List ℕ)) (n : Code) → pieces_from level vars (parts_of t) 0 [] ≡ piece.Ends n
      → words_from level vars us k done ≡ words.Ends n
  word_ends done n h = rw (e, h) refl

  pub word_long : (done : List (List ℕ)) (text : List ℕ)
      → pieces_from level vars (parts_of t) 0 [] ≡ piece.Whole text
      → nat_lt text_limit (sum_by length (done ++ text ∷ [])) ≡ true
      → words_from level vars us k done ≡ words.Ends (Raised too_long)
  word_long done text h l = rw (e, h, l) refl

  pub word_more : (done : List (List ℕ)) (text : List ℕ)
      → pieces_from level vars (parts_of t) 0 [] ≡ piece.Whole text
      → nat_lt text_limit (sum_by length (done ++ text ∷ [])) ≡ false
      → words_from level vars us k done ≡ words_from level vars ts (k + 1) (done ++ text ∷ [])
  word_more done text h l = rw (e, h, l) refl

module _ (price : ℕ) (level : Option Level) (vars : Scopes) (t : Tree) (ts us : List Tree)
    (e : us ≡ t ∷ ts) where
  pub cost_child : (text : List ℕ) → is_flat t ≡ false → pieces_cost price level vars us text ≡ price
  cost_child text f = rw (e, f) (omega arith)

  pub cost_ends : (text : List ℕ) (c : Code) → is_flat t ≡ true
      → Some c ≡ added_end (leaf_code level vars t) text → pieces_cost price level vars us text ≡ price
  cost_ends text c f h = rw (
    e,
    f,
    end_of (leaf_code level vars t) c text
        (λ all. pieces_cost price level vars ts all) (λ d. 0) h,
  ) (omega arith)

  pub cost_more : (text : List ℕ) → is_flat t ≡ true → None ≡ added_end (leaf_code level vars t) text
      → pieces_cost price level vars us text
      ≡ price + pieces_cost price level vars ts (added_text (leaf_code level vars t) text)
  cost_more text f h = rw (
    e,
    f,
    more_of (leaf_code level vars t) text
        (λ all. pieces_cost price level vars ts all) (λ d. 0) h,
  ) refl

  pub word_child_cost : (done : List (List ℕ)) (j : ℕ) (text : List ℕ)
      → pieces_from level vars (parts_of t) 0 [] ≡ piece.Child j text
      → words_cost price level vars us done ≡ pieces_cost (part_price price t) level vars (parts_of t) []
  word_child_cost done j text h = rw (e, h) (omega arith)

  pub word_ends_cost : (done : List (List ℕ)) (n : Code)
      → pieces_from level vars (parts_of t) 0 [] ≡ piece.Ends n
      → words_cost price level vars us done ≡ pieces_cost (part_price price t) level vars (parts_of t) []
  word_ends_cost done n h = rw (e, h) (omega arith)

  pub word_long_cost : (done : List (List ℕ)) (text : List ℕ)
      → pieces_from level vars (parts_of t) 0 [] ≡ piece.Whole text
      → nat_lt text_limit (sum_by length (done ++ text ∷ [])) ≡ true
      → words_cost price level vars us done ≡ pieces_cost (part_price price t) level vars (parts_of t) []
  word_long_cost done text h l = rw (e, h, l) (omega arith)

  pub word_more_cost : (done : List (List ℕ)) (text : List ℕ)
      → pieces_from level vars (parts_of t) 0 [] ≡ piece.Whole text
      → nat_lt text_limit (sum_by length (done ++ text ∷ [])) ≡ false
      → words_cost price level vars us done
      ≡ pieces_cost (part_price price t) level vars (parts_of t) [] + words_cost price level vars ts
      (done ++ text ∷ [])
  word_more_cost done text h l = rw (e, h, l) refl
