-- What pieces and words come to.
use Rattle.std.proofs.Common.{◌≡◌, refl, ap, ◌∙◌, sym, ℕ, suc, zero, ◌+◌, List, [], ◌∷◌, ◌++◌, length, drop, get_or, Bool, true, false, cond, nat_lt, arith, add-zero, add_assoc, append_assoc}
use Rattle.std.specs.Prelude.{sum_by}
use Rattle.px_bytes.specs.FaultText.{too_long}
use Rattle.px_bytes.specs.Limit.{text_limit}
use Rattle.px_bytes.specs.declared.fault.Reply.{Reply}
use Rattle.tcl_trees.specs.Tree.{Tree, Trees, no_trees, and_tree}
use Rattle.tcl_trees.specs.Tree as tree
use Rattle.tcl_vars.specs.Scopes.{Scopes}
use Rattle.rule_model.specs.Children.{child, free, one}
use Rattle.rule_model.specs.Evaluator.{eval, evals, parts, words}
use Rattle.rule_model.specs.Outcome.{Act, state, Ends, Meaning, then_value}
use Rattle.rule_model.specs.Setting.{Setting, Inner}
use Rattle.rule_model.specs.Words.{after_piece, after_word, in_order, in_word, told, word_at}
use Rattle.rule_model.specs.declared.code.Code.TheVariants.{Value, Raised}
use Rattle.rule_model.specs.declared.code.Code.{Code}
use Rattle.frames.specs.Children.{all, child_at, parts_of, words_of}
use Rattle.frames.specs.Frames.{word_price, words_end, words_in}
use Rattle.frame_words.specs.Gathered.{words_out}
use Rattle.frames.specs.Leafs.{leaf_code}
use Rattle.frames.specs.Owed.{is_flat}
use Rattle.frame_words.specs.Pieces.{add_piece, pieces_cost, pieces_from}
use Rattle.frame_words.specs.Words.{add_word, part_price, with_word, word_unit, words_cost, words_from}
use Rattle.frame_words.specs.declared.pieces.Piece.{Piece}
use Rattle.frame_words.specs.declared.pieces.Piece.TheVariants as piece
use Rattle.frame_words.specs.declared.words.Gathered.TheVariants as gathered
use Rattle.frames.proofs.LeafViews.{leaf_eval}
use Rattle.frame_words.proofs.Rests.{head_at, tail_at}

-- the price of a part, by the price of a word without parts
abbrev pub part_prices : (Tree → ℕ) → Tree → Tree → ℕ
part_prices p (tree.word (and_tree t ts)) = one
part_prices p t = p

pub prices_by : (p : Tree → ℕ) (n : ℕ) (u x : Tree) → ((y : Tree) → p y ≡ n)
    → part_prices p u x ≡ part_price n u
prices_by p n (tree.word (and_tree t ts)) x h = refl
prices_by p n other x h = h x

pub unit_is : (t x : Tree) → word_price t x ≡ word_unit t
unit_is (tree.switch k ts bs) x = refl
unit_is (tree.plain text) x = refl
unit_is (tree.variable name) x = refl
unit_is (tree.element name ts) x = refl
unit_is (tree.word ts) x = refl
unit_is (tree.script ts) x = refl
unit_is (tree.command v ts) x = refl
unit_is (tree.expr t) x = refl
unit_is (tree.branches vs last) x = refl
unit_is (tree.choice vs last) x = refl
unit_is (tree.loop s t n b) x = refl
unit_is (tree.each ts b) x = refl
unit_is (tree.catch b) x = refl
unit_is (tree.catch_in b n) x = refl
unit_is tree.next_body x = refl
unit_is (tree.prefixed ops t) x = refl
unit_is (tree.row t os) x = refl

pub none_left : {A : Type 0} {B : Type 0} (k : ℕ) (u : A) (us : List A) → u ∷ us ≡ drop k [] → B
none_left zero u us e = absurd (cc e)
none_left (suc k) u us e = absurd (cc e)

head_before : (xs more : List Tree) (k : ℕ) (u d : Tree) (us : List Tree) → u ∷ us ≡ drop k xs
    → get_or (xs ++ more) k d ≡ u
head_before [] more k u d us e = none_left k u us e
head_before (x ∷ xs) more zero u d us e = cc e
head_before (x ∷ xs) more (suc k) u d us e = head_before xs more k u d us e

-- a word is the child of its number
word_child : (t : Tree) (k : ℕ) (u : Tree) (us : List Tree) → u ∷ us ≡ drop k (words_of t) → child_at t k ≡ u
word_child (tree.command v ts) k u us e = head_at (all ts) k u (tree.command v ts) us e
word_child (tree.each ts b) k u us e = head_before (all ts) (b ∷ []) k u (tree.each ts b) us e
word_child (tree.switch n ts bs) k u us e = head_before (all ts) (all bs) k u (tree.switch n ts bs) us e
word_child other k u us e = none_left k u us e

module _ {H : Type 0} (g : Setting H) (i : Inner H) where
  -- rows of trees from the child of number k on
  abbrev pub each : (Tree → ℕ) → ℕ → List Tree → List (Meaning H)
  each p k [] = []
  each p k (t ∷ ts) = child p k t (eval g i t) ∷ each p (k + 1) ts

  pub evals_each : (p : Tree → ℕ) (k : ℕ) (ts : Trees) → evals g i p k ts ≡ each p k (all ts)
  evals_each p k no_trees = refl
  evals_each p k (and_tree t ts) = ap (λ l. child p k t (eval g i t) ∷ l) (evals_each p (k + 1) ts)

  drop_row : (p : Tree → ℕ) (n k : ℕ) (ts : List Tree) → drop n (each p k ts) ≡ each p (k + n) (drop n ts)
  drop_row p zero k ts = rw add-zero refl
  drop_row p (suc n) k [] = refl
  drop_row p (suc n) k (t ∷ ts) = let a : k + suc n ≡ k + 1 + n = omega arith in
      rw a (drop_row p n (k + 1) ts)

  pub drop_each : (p : Tree → ℕ) (n : ℕ) (ts : List Tree) → drop n (each p 0 ts) ≡ each p n (drop n ts)
  drop_each p n ts = let a : 0 + n ≡ n = omega arith in drop_row p n 0 ts ∙ ap (λ k. each p k (drop n ts)) a

  pub parts_each : (p : Tree → ℕ) (u : Tree)
      → parts g i p u (eval g i u) ≡ each (part_prices p u) 0 (parts_of u)
  parts_each p (tree.word (and_tree t ts)) = ap (λ l. child one 0 t (eval g i t) ∷ l) (evals_each one 1 ts)
  parts_each p other = refl

  abbrev pub each_word : (Tree → ℕ) → ℕ → List Tree → List (Meaning H)
  each_word p k [] = []
  each_word p k (u ∷ us) = word_at k (each (part_prices p u) 0 (parts_of u)) ∷ each_word p (k + 1) us

  pub words_each : (p : Tree → ℕ) (k : ℕ) (ts : Trees) → words g i p k ts ≡ each_word p k (all ts)
  words_each p k no_trees = refl
  words_each p k (and_tree t ts) = rw (parts_each p t, words_each p (k + 1) ts) refl

  drop_word : (p : Tree → ℕ) (n k : ℕ) (us : List Tree)
      → drop n (each_word p k us) ≡ each_word p (k + n) (drop n us)
  drop_word p zero k us = rw add-zero refl
  drop_word p (suc n) k [] = refl
  drop_word p (suc n) k (u ∷ us) = let a : k + suc n ≡ k + 1 + n = omega arith in
      rw a (drop_word p n (k + 1) us)

  words_row : (t : Tree) → words_in g i t ≡ each_word (word_price t) 0 (words_of t)
  words_row (tree.command v ts) = words_each one 0 ts
  words_row (tree.each ts b) = words_each one 0 ts
  words_row (tree.switch k ts bs) = words_each free 0 ts
  words_row other = refl

  pub words_left : (t : Tree) (k : ℕ)
      → drop k (words_in g i t) ≡ each_word (word_price t) k (drop k (words_of t))
  words_left t k = let a : 0 + k ≡ k = omega arith in
      ap (λ l. drop k l) (words_row t) ∙ drop_word (word_price t) k 0 (words_of t)
      ∙ ap (λ n. each_word (word_price t) n (drop k (words_of t))) a

  -- these words stand in a node from the number k on
  abbrev pub WordsAt : Tree → ℕ → List Tree → Type 0
  WordsAt t k [] = Unit {0}
  WordsAt t k (u ∷ us) = (child_at t k ≡ u)
      × (drop (k + 1) (words_in g i t) ≡ each_word (word_price t) (k + 1) us) × WordsAt t (k + 1) us

  pub words_at : (t : Tree) (k : ℕ) (us : List Tree) → us ≡ drop k (words_of t) → WordsAt t k us
  words_at t k [] e = tt
  words_at t k (u ∷ us) e =
      let r = tail_at (words_of t) k u us e in (
        word_child t k u us e,
        words_left t (k + 1)
            ∙ ap (λ l. each_word (word_price t) (k + 1) l) (sym r),
        words_at t (k + 1) us r,
      )

  -- what pieces come to
  abbrev pub piece_out : Tree → List Tree → (Tree → ℕ) → (List ℕ → Meaning H) → Piece → Meaning H
  piece_out d ts p finish (piece.Whole text) path st = finish text path st
  piece_out d ts p finish (piece.Ends c) path st = Ends c st
  piece_out d ts p finish (piece.Child j text) path st =
      then_value (eval g i (get_or ts j d) (path ++ j ∷ []) st)
      (after_piece (in_word finish (each p (j + 1) (drop (j + 1) ts))) text path)

  abbrev PiecesAre : Tree → List Tree → (Tree → ℕ) → ℕ → (List ℕ → Meaning H) → List Tree → ℕ → Type 0
  PiecesAre d whole p n finish ts k =
      (text path : List ℕ) (vars : Scopes) (h : H) (more : List Reply) (budget cost : ℕ) (acts : List Act) →
      in_word finish (each p k ts) text path (state vars h more budget cost acts)
      ≡ piece_out d whole p finish (pieces_from g.statics vars ts k text) path
      (state vars h more budget (cost + pieces_cost n g.statics vars ts text) acts)

  piece_within : (d : Tree) (whole : List Tree) (p : Tree → ℕ) (n : ℕ) (finish : List ℕ → Meaning H)
      (ts : List Tree) (k : ℕ) (b : Bool) (all path : List ℕ) (vars : Scopes) (h : H) (more : List Reply)
      (budget cost : ℕ) (acts : List Act) →
      PiecesAre d whole p n finish ts (k + 1) →
      cond b (Ends (Raised too_long) (state vars h more budget (cost + n) acts))
      (in_word finish (each p (k + 1) ts) all path (state vars h more budget (cost + n) acts))
      ≡ piece_out d whole p finish (cond b (piece.Ends (Raised too_long))
      (pieces_from g.statics vars ts (k + 1) all)) path
      (state vars h more budget (cost + (n + cond b 0 (pieces_cost n g.statics vars ts all))) acts)
  piece_within d whole p n finish ts k true all path vars h more budget cost acts ih = rw add-zero refl
  piece_within d whole p n finish ts k false all path vars h more budget cost acts ih =
      rw (← add_assoc cost n (pieces_cost n g.statics vars ts all))
      (ih all path vars h more budget (cost + n) acts)

  piece_flat : (d : Tree) (whole : List Tree) (p : Tree → ℕ) (n : ℕ) (finish : List ℕ → Meaning H)
      (ts : List Tree) (k : ℕ) (r : Code) (text path : List ℕ) (vars : Scopes) (h : H) (more : List Reply)
      (budget cost : ℕ) (acts : List Act) →
      PiecesAre d whole p n finish ts (k + 1) →
      then_value (Ends r (state vars h more budget (cost + n) acts))
      (after_piece (in_word finish (each p (k + 1) ts)) text path)
      ≡ piece_out d whole p finish (add_piece r text (λ all. pieces_from g.statics vars ts (k + 1) all)
      (λ c. piece.Ends c)) path
      (state vars h more budget (cost +
      (n + add_piece r text (λ all. pieces_cost n g.statics vars ts all) (λ c. 0))) acts)
  piece_flat d whole p n finish ts k (Value v) text path vars h more budget cost acts ih =
      piece_within d whole p n finish ts k (nat_lt text_limit (length (text ++ v))) (text ++ v) path vars h
      more budget cost acts ih
  piece_flat d whole p n finish ts k other text path vars h more budget cost acts ih = rw add-zero refl

  piece_by : (d : Tree) (whole : List Tree) (p : Tree → ℕ) (n : ℕ) (finish : List ℕ → Meaning H) (t : Tree)
      (ts : List Tree) (k : ℕ) (b : Bool) → ((x : Tree) → p x ≡ n) → is_flat t ≡ b → t ∷ ts ≡ drop k whole →
      PiecesAre d whole p n finish ts (k + 1) → PiecesAre d whole p n finish (t ∷ ts) k
  piece_by d whole p n finish t ts k true q f e ih text path vars h more budget cost acts =
      rw (f, q t, leaf_eval g i t (path ++ k ∷ []) (state vars h more budget (cost + n) acts) f)
      (piece_flat d whole p n finish ts k (leaf_code g.statics vars t) text path vars h more budget cost acts
      ih)
  piece_by d whole p n finish t ts k false q f e ih text path vars h more budget cost acts =
      rw (f, q t, add-zero, head_at whole k t d ts e, tail_at whole k t ts e) refl

  pub pieces_are : (d : Tree) (whole : List Tree) (p : Tree → ℕ) (n : ℕ) (finish : List ℕ → Meaning H)
      → ((x : Tree) → p x ≡ n) → (ts : List Tree) (k : ℕ) → ts ≡ drop k whole
      → PiecesAre d whole p n finish ts k
  pieces_are d whole p n finish q [] k e text path vars h more budget cost acts = rw add-zero refl
  pieces_are d whole p n finish q (t ∷ ts) k e text path vars h more budget cost acts =
      piece_by d whole p n finish t ts k (is_flat t) q refl e
      (pieces_are d whole p n finish q ts (k + 1) (tail_at whole k t ts e)) text path vars h more budget cost
      acts

  -- what words come to
  abbrev pub WordsAre : Tree → List Tree → ℕ → Type 0
  WordsAre t us k = (done : List (List ℕ)) (path : List ℕ) (vars : Scopes) (h : H) (more : List Reply)
      (budget cost : ℕ) (acts : List Act) →
      in_order (words_end g i t) (each_word (word_price t) k us) done path
      (state vars h more budget cost acts)
      ≡ words_out g i t (words_from g.statics vars us k done) path
      (state vars h more budget (cost + words_cost (word_unit t) g.statics vars us done) acts)

  word_within : (t : Tree) (us : List Tree) (k n : ℕ) (b : Bool) (done : List (List ℕ)) (path : List ℕ)
      (vars : Scopes) (h : H) (more : List Reply) (budget cost : ℕ) (acts : List Act) → WordsAre t us k →
      cond b (Ends (Raised too_long) (state vars h more budget (cost + n) acts))
      (in_order (words_end g i t) (each_word (word_price t) k us) done path
      (state vars h more budget (cost + n) acts))
      ≡ words_out g i t (cond b (gathered.Ends (Raised too_long)) (words_from g.statics vars us k done)) path
      (state vars h more budget (cost + (n + cond b 0 (words_cost (word_unit t) g.statics vars us done)))
      acts)
  word_within t us k n true done path vars h more budget cost acts ih = rw add-zero refl
  word_within t us k n false done path vars h more budget cost acts ih =
      rw (← add_assoc cost n (words_cost (word_unit t) g.statics vars us done))
      (ih done path vars h more budget (cost + n) acts)

  -- what ends a word is no value
  abbrev pub Proper : Piece → Type 0
  Proper (piece.Ends (Value v)) = ⊥
  Proper x = Unit {0}

  proper_within : (vars : Scopes) (ts : List Tree) (k : ℕ) (b : Bool) (text : List ℕ)
      → Proper (pieces_from g.statics vars ts k text)
      → Proper (cond b (piece.Ends (Raised too_long)) (pieces_from g.statics vars ts k text))
  proper_within vars ts k true text h = tt
  proper_within vars ts k false text h = h

  proper_leaf : (vars : Scopes) (ts : List Tree) (k : ℕ) (c : Code) (text : List ℕ)
      → ((x : List ℕ) → Proper (pieces_from g.statics vars ts k x))
      → Proper (add_piece c text (λ all. pieces_from g.statics vars ts k all) (λ e. piece.Ends e))
  proper_leaf vars ts k (Value v) text h =
      proper_within vars ts k (nat_lt text_limit (length (text ++ v))) (text ++ v) (h (text ++ v))
  proper_leaf vars ts k other text h = tt

  proper_part : (vars : Scopes) (t : Tree) (ts : List Tree) (k : ℕ) (text : List ℕ) (b : Bool) → is_flat t ≡ b
      → ((x : List ℕ) → Proper (pieces_from g.statics vars ts (k + 1) x))
      → Proper (pieces_from g.statics vars (t ∷ ts) k text)
  proper_part vars t ts k text true f h =
      rw f (proper_leaf vars ts (k + 1) (leaf_code g.statics vars t) text h)
  proper_part vars t ts k text false f h = rw f tt

  pub pieces_proper : (vars : Scopes) (ts : List Tree) (k : ℕ) (text : List ℕ)
      → Proper (pieces_from g.statics vars ts k text)
  pieces_proper vars [] k text = tt
  pieces_proper vars (t ∷ ts) k text =
      proper_part vars t ts k text (is_flat t) refl (pieces_proper vars ts (k + 1))

  -- behind the pieces of one word
  pub word_by : (t u : Tree) (us : List Tree) (k : ℕ) (x : Piece) (n : ℕ) → Proper x → child_at t k ≡ u
      → drop (k + 1) (words_in g i t) ≡ each_word (word_price t) (k + 1) us → WordsAre t us (k + 1) →
      (done : List (List ℕ)) (path : List ℕ) (vars : Scopes) (h : H) (more : List Reply) (budget cost : ℕ)
      (acts : List Act) →
      then_value (piece_out u (parts_of u) (part_prices (word_price t) u) told x (path ++ k ∷ [])
      (state vars h more budget (cost + n) acts))
      (after_word (in_order (words_end g i t) (each_word (word_price t) (k + 1) us)) done path)
      ≡ words_out g i t (with_word x
      (λ text. add_word done text (λ all. words_from g.statics vars us (k + 1) all) (λ c. gathered.Ends c))
      (λ c. gathered.Ends c) (λ part text. gathered.Child k part done text)) path
      (state vars h more budget (cost +
      (n + with_word x (λ text. add_word done text (λ all. words_cost (word_unit t) g.statics vars us all)
      (λ c. 0)) (λ c. 0) (λ part text. 0))) acts)
  word_by t u us k (piece.Whole text) n q c e ih done path vars h more budget cost acts =
      word_within t us (k + 1) n (nat_lt text_limit (sum_by length (done ++ text ∷ []))) (done ++ text ∷ [])
      path vars h more budget cost acts ih
  word_by t u us k (piece.Ends (Value v)) n q c e ih done path vars h more budget cost acts = absurd q
  word_by t u us k (piece.Child j text) n q c e ih done path vars h more budget cost acts =
      rw (
        add-zero,
        c,
        e,
        parts_each (word_price t) u,
        drop_each (part_prices (word_price t) u) (j + 1)
            (parts_of u),
        append_assoc path (k ∷ []) (j ∷ []),
      ) refl
  word_by t u us k other n q c e ih done path vars h more budget cost acts = rw add-zero refl

  pub words_are : (t : Tree) (us : List Tree) (k : ℕ) → WordsAt t k us → WordsAre t us k
  words_are t [] k e done path vars h more budget cost acts = rw add-zero refl
  words_are t (u ∷ us) k (c, e, rest) done path vars h more budget cost acts =
      ap (λ o. then_value o (after_word (in_order (words_end g i t) (each_word (word_price t) (k + 1) us))
      done path))
      (pieces_are u (parts_of u) (part_prices (word_price t) u) (part_price (word_unit t) u) told
      (λ x. prices_by (word_price t) (word_unit t) u x (unit_is t)) (parts_of u) 0 refl [] (path ++ k ∷ [])
      vars h more budget cost acts)
      ∙ word_by t u us k (pieces_from g.statics vars (parts_of u) 0 [])
      (pieces_cost (part_price (word_unit t) u) g.statics vars (parts_of u) [])
      (pieces_proper vars (parts_of u) 0 []) c e (words_are t us (k + 1) rest) done path vars h more budget
      cost acts
