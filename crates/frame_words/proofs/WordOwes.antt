-- What words owe, and that a part that begins has something to do.
use Rattle.std.proofs.Common.{◌≡◌, refl, ℕ, ◌+◌, ◌≤◌, List, [], ◌∷◌, ◌++◌, length, drop, get_or, Bool, true, false, cond, Option, nat_lt, arith}
use Rattle.std.specs.Prelude.{codes, sum_by}
use Rattle.px_bytes.specs.FaultText.{too_long}
use Rattle.px_bytes.specs.Limit.{text_limit}
use Rattle.tcl_trees.specs.Tree.{Tree, Trees, no_trees, and_tree}
use Rattle.tcl_trees.specs.Tree as tree
use Rattle.tcl_trees.specs.declared.node.Verb.TheVariants as verb
use Rattle.tcl_vars.specs.Scopes.{Level, Scopes}
use Rattle.rule_model.specs.Setting.{Setting, Inner}
use Rattle.rule_model.specs.declared.code.Code.{Code}
use Rattle.rule_model.specs.declared.code.Code.TheVariants.{Value, Raised}
use Rattle.frames.specs.Children.{all, child_at, parts_of, words_of}
use Rattle.frame_words.specs.FirstWords.{first_cost, first_words, has_words}
use Rattle.frame_words.specs.Gathered.{WordsReady}
use Rattle.frames.specs.Leafs.{leaf_code}
use Rattle.frames.specs.Owed.{is_flat}
use Rattle.frame_words.specs.Pieces.{add_piece, pieces_behind, pieces_cost, pieces_from}
use Rattle.frame_words.specs.Words.{add_word, part_price, with_word, word_behind, words_cost, words_from}
use Rattle.frame_words.specs.declared.pieces.Piece.{Piece}
use Rattle.frame_words.specs.declared.pieces.Piece.TheVariants as piece
use Rattle.frame_words.specs.declared.words.Gathered.TheVariants as gathered
use Rattle.frame_words.proofs.Rests.{head_at, tail_at}
use Rattle.frame_words.proofs.WordMeans.{WordsAt, words_at}

-- the part that begins isn't flat
abbrev pub PieceReady : Tree → List Tree → Piece → Type 0
PieceReady d whole (piece.Whole text) = Unit {0}
PieceReady d whole (piece.Ends c) = Unit {0}
PieceReady d whole (piece.Child j text) = is_flat (get_or whole j d) ≡ false

module _ (level : Option Level) (vars : Scopes) where
  ready_within : (d : Tree) (whole ts : List Tree) (k : ℕ) (b : Bool) (text : List ℕ)
      → PieceReady d whole (pieces_from level vars ts k text)
      → PieceReady d whole (cond b (piece.Ends (Raised too_long)) (pieces_from level vars ts k text))
  ready_within d whole ts k true text h = tt
  ready_within d whole ts k false text h = h

  ready_leaf : (d : Tree) (whole ts : List Tree) (k : ℕ) (c : Code) (text : List ℕ)
      → ((x : List ℕ) → PieceReady d whole (pieces_from level vars ts k x))
      → PieceReady d whole (add_piece c text (λ all. pieces_from level vars ts k all) (λ e. piece.Ends e))
  ready_leaf d whole ts k (Value v) text h =
      ready_within d whole ts k (nat_lt text_limit (length (text ++ v))) (text ++ v) (h (text ++ v))
  ready_leaf d whole ts k other text h = tt

  ready_part : (d : Tree) (whole : List Tree) (t : Tree) (ts : List Tree) (k : ℕ) (text : List ℕ) (b : Bool)
      → is_flat t ≡ b → t ∷ ts ≡ drop k whole
      → ((x : List ℕ) → PieceReady d whole (pieces_from level vars ts (k + 1) x))
      → PieceReady d whole (pieces_from level vars (t ∷ ts) k text)
  ready_part d whole t ts k text true f e h =
      rw f (ready_leaf d whole ts (k + 1) (leaf_code level vars t) text h)
  ready_part d whole t ts k text false f e h = rw f (rw (head_at whole k t d ts e) f)

  pub pieces_ready : (d : Tree) (whole ts : List Tree) (k : ℕ) → ts ≡ drop k whole → (text : List ℕ)
      → PieceReady d whole (pieces_from level vars ts k text)
  pieces_ready d whole [] k e text = tt
  pieces_ready d whole (t ∷ ts) k e text =
      ready_part d whole t ts k text (is_flat t) refl e
      (pieces_ready d whole ts (k + 1) (tail_at whole k t ts e))

  module _ {H : Type 0} (g : Setting H) (i : Inner H) where
    ready_all : (t : Tree) (us : List Tree) (k : ℕ) (b : Bool) (done : List (List ℕ))
        → WordsReady t (words_from level vars us k done)
        → WordsReady t (cond b (gathered.Ends (Raised too_long)) (words_from level vars us k done))
    ready_all t us k true done h = tt
    ready_all t us k false done h = h

    ready_word : (t u : Tree) (us : List Tree) (k : ℕ) (x : Piece) (done : List (List ℕ)) → child_at t k ≡ u
        → PieceReady u (parts_of u) x →
        ((all : List (List ℕ)) → WordsReady t (words_from level vars us (k + 1) all))
        → WordsReady t (with_word x (λ text. add_word done text (λ all. words_from level vars us (k + 1) all)
        (λ c. gathered.Ends c)) (λ c. gathered.Ends c) (λ part text. gathered.Child k part done text))
    ready_word t u us k (piece.Whole text) done c q h =
        ready_all t us (k + 1) (nat_lt text_limit (sum_by length (done ++ text ∷ []))) (done ++ text ∷ [])
        (h (done ++ text ∷ []))
    ready_word t u us k (piece.Ends e) done c q h = tt
    ready_word t u us k (piece.Child j text) done c q h = rw c q

    pub words_ready : (t : Tree) (us : List Tree) (k : ℕ) → WordsAt g i t k us → (done : List (List ℕ))
        → WordsReady t (words_from level vars us k done)
    words_ready t [] k e done = tt
    words_ready t (u ∷ us) k (c, e, rest) done =
        ready_word t u us k (pieces_from level vars (parts_of u) 0 []) done c
        (pieces_ready u (parts_of u) (parts_of u) 0 refl []) (words_ready t us (k + 1) rest)

    pub first_ready : (t : Tree) → WordsReady t (first_words level vars t)
    first_ready (tree.command v ts) =
        words_ready (tree.command v ts) (all ts) 0 (words_at g i (tree.command v ts) 0 (all ts) refl) []
    first_ready (tree.each ts b) =
        words_ready (tree.each ts b) (all ts) 0 (words_at g i (tree.each ts b) 0 (all ts) refl)
        (codes "foreach" ∷ [])
    first_ready (tree.switch k ts bs) =
        words_ready (tree.switch k ts bs) (all ts) 0 (words_at g i (tree.switch k ts bs) 0 (all ts) refl)
        (codes "switch" ∷ [])
    first_ready (tree.catch_in b n) =
        words_ready (tree.catch_in b n) (n ∷ []) 1 (refl, refl, tt) (codes "catch" ∷ [])
    first_ready other = tt

    ready_behind : (t : Tree) (k j : ℕ) (b : Bool) (text : List ℕ) → let u = child_at t k in
        PieceReady u (parts_of u) (cond b (piece.Ends (Raised too_long))
        (pieces_from level vars (drop (j + 1) (parts_of u)) (j + 1) text))
    ready_behind t k j b text = let u = child_at t k in
        ready_within u (parts_of u) (drop (j + 1) (parts_of u)) (j + 1) b text
        (pieces_ready u (parts_of u) (drop (j + 1) (parts_of u)) (j + 1) refl text)

    pub behind_ready : (t : Tree) (k j : ℕ) (done : List (List ℕ)) (text v : List ℕ)
        → WordsReady t (word_behind level vars t k j done text v)
    behind_ready t k j done text v =
        let us = drop (k + 1) (words_of t) in
        ready_word t (child_at t k) us k (pieces_behind level vars (parts_of (child_at t k)) j text v) done
        refl (ready_behind t k j (nat_lt text_limit (length (text ++ v))) (text ++ v))
        (words_ready t us (k + 1) (words_at g i t (k + 1) us refl))

  -- a word costs one at least, where no word is free
  part_some : (n : ℕ) (t : Tree) (ts : List Tree) → 1 ≤ n → 1 ≤ pieces_cost n level vars (t ∷ ts) []
  part_some n t ts h = omega (arith, h)

  word_some : (u : Tree) → 1 ≤ pieces_cost (part_price 1 u) level vars (parts_of u) []
  word_some (tree.word no_trees) = part_some 1 (tree.word no_trees) [] (omega arith)
  word_some (tree.word (and_tree t ts)) = part_some 1 t (all ts) (omega arith)
  word_some (tree.plain text) = part_some 1 (tree.plain text) [] (omega arith)
  word_some (tree.variable name) = part_some 1 (tree.variable name) [] (omega arith)
  word_some (tree.element name ts) = part_some 1 (tree.element name ts) [] (omega arith)
  word_some (tree.script ts) = part_some 1 (tree.script ts) [] (omega arith)
  word_some (tree.command v ts) = part_some 1 (tree.command v ts) [] (omega arith)
  word_some (tree.expr t) = part_some 1 (tree.expr t) [] (omega arith)
  word_some (tree.branches vs last) = part_some 1 (tree.branches vs last) [] (omega arith)
  word_some (tree.choice vs last) = part_some 1 (tree.choice vs last) [] (omega arith)
  word_some (tree.loop s t n b) = part_some 1 (tree.loop s t n b) [] (omega arith)
  word_some (tree.each ts b) = part_some 1 (tree.each ts b) [] (omega arith)
  word_some (tree.switch k ts bs) = part_some 1 (tree.switch k ts bs) [] (omega arith)
  word_some (tree.catch b) = part_some 1 (tree.catch b) [] (omega arith)
  word_some (tree.catch_in b n) = part_some 1 (tree.catch_in b n) [] (omega arith)
  word_some tree.next_body = part_some 1 tree.next_body [] (omega arith)
  word_some (tree.prefixed ops t) = part_some 1 (tree.prefixed ops t) [] (omega arith)
  word_some (tree.row t os) = part_some 1 (tree.row t os) [] (omega arith)

  some_words : (ts : Trees) → is_flat (tree.command verb.Named ts) ≡ false
      → 1 ≤ words_cost 1 level vars (all ts) []
  some_words no_trees e = absurd (cc e)
  some_words (and_tree t ts) e = let k = word_some t in omega (arith, k)

  -- so does a node that has words
  pub first_some : (t : Tree) → has_words t ≡ true → is_flat t ≡ false → 1 ≤ first_cost level vars t
  first_some (tree.command v ts) q e = some_words ts e
  first_some (tree.each ts b) q e = omega arith
  first_some (tree.switch k ts bs) q e = omega arith
  first_some (tree.catch_in b n) q e = omega arith
  first_some other q e = absurd (cc q)
