-- What the moves of a quoted operand and of an element come to.
use Rattle.std.proofs.Common.{◌≡◌, refl, ap, ◌∙◌, ℕ, ◌+◌, ◌*◌, ◌≤◌, List, [], ◌∷◌, ◌++◌, length, drop, get_or, Bool, true, false, cond, nat_lt, Option, arith, add-zero}
use Rattle.std.proofs.lemmas.List.{drop_all}
use Rattle.px_bytes.specs.FaultText.{too_long}
use Rattle.px_bytes.specs.Limit.{text_limit}
use Rattle.px_bytes.specs.declared.fault.Reply.{Reply}
use Rattle.tcl_trees.specs.Procedures.{Procedure}
use Rattle.tcl_trees.specs.Tree.{Tree, Trees, no_trees, and_tree}
use Rattle.tcl_trees.specs.Tree as tree
use Rattle.tcl_vars.specs.Scopes.{Level, Scopes}
use Rattle.rule_model.specs.Children.{one}
use Rattle.rule_model.specs.Evaluator.{eval}
use Rattle.rule_model.specs.Outcome.{Act, State, state, Ends, Meaning, heard}
use Rattle.rule_model.specs.Setting.{Setting, Inner}
use Rattle.rule_model.specs.Words.{in_word}
use Rattle.rule_model.specs.declared.code.Code.{Code}
use Rattle.rule_model.specs.declared.code.Code.TheVariants.{Value, Raised}
use Rattle.frames.specs.Children.{all, child_at, pieces_of}
use Rattle.frames.specs.Frames.{inner_of, pieces_in, text_end}
use Rattle.frames.specs.Moves.{Ready, due, goes_on, stands}
use Rattle.frames.specs.Owed.{is_flat, mode_owed}
use Rattle.frame_words.specs.Pieces.{pieces_behind, pieces_cost, pieces_from}
use Rattle.frames.specs.Stills.{Comes, still}
use Rattle.frame_words.specs.WordMoves.{pieces_begin, pieces_goes, pieces_next, whole_code}
use Rattle.frames.specs.declared.frame.Frame.TheVariants as frame
use Rattle.frames.specs.declared.frame.Mode.TheVariants as mode
use Rattle.frames.specs.declared.frame.Room.{Room}
use Rattle.frame_words.specs.declared.pieces.Piece.{Piece}
use Rattle.frame_words.specs.declared.pieces.Piece.TheVariants as piece
use Rattle.frames.proofs.Heard.{heard_true}
use Rattle.frame_words.proofs.InScripts.{back_owes}
use Rattle.frame_words.proofs.WordMeans.{each, drop_each, evals_each, piece_out, pieces_are}
use Rattle.frame_words.proofs.WordOwes.{PieceReady, pieces_ready}

-- its parts are children
abbrev pub HasPieces : Tree → Type 0
HasPieces (tree.word ts) = Unit {0}
HasPieces (tree.element name ts) = Unit {0}
HasPieces t = ⊥

-- a part that begins is a child
abbrev Placed : Tree → Piece → Type 0
Placed t (piece.Child j text) = child_at t j ≡ get_or (pieces_of t) j t
Placed t x = Unit {0}

placed_with : (t : Tree) (x : Piece) → HasPieces t → Placed t x
placed_with t (piece.Whole text) q = tt
placed_with t (piece.Ends c) q = tt
placed_with (tree.plain x) (piece.Child j text) q = absurd q
placed_with (tree.variable name) (piece.Child j text) q = absurd q
placed_with (tree.element name ts) (piece.Child j text) q = refl
placed_with (tree.word ts) (piece.Child j text) q = refl
placed_with (tree.script ts) (piece.Child j text) q = absurd q
placed_with (tree.command v ts) (piece.Child j text) q = absurd q
placed_with (tree.expr t) (piece.Child j text) q = absurd q
placed_with (tree.branches vs last) (piece.Child j text) q = absurd q
placed_with (tree.choice vs last) (piece.Child j text) q = absurd q
placed_with (tree.loop s t n b) (piece.Child j text) q = absurd q
placed_with (tree.each ts b) (piece.Child j text) q = absurd q
placed_with (tree.switch k ts bs) (piece.Child j text) q = absurd q
placed_with (tree.catch b) (piece.Child j text) q = absurd q
placed_with (tree.catch_in b n) (piece.Child j text) q = absurd q
placed_with tree.next_body (piece.Child j text) q = absurd q
placed_with (tree.prefixed ops t) (piece.Child j text) q = absurd q
placed_with (tree.row t os) (piece.Child j text) q = absurd q

placed_none : (t : Tree) (statics : Option Level) (vars : Scopes) (j : ℕ) (b : Bool) (text : List ℕ)
    → pieces_of t ≡ [] → Placed t (cond b (piece.Ends (Raised too_long))
    (pieces_from statics vars (drop (j + 1) (pieces_of t)) (j + 1) text))
placed_none t statics vars j true text e = tt
placed_none t statics vars j false text e = rw (e, drop_none j) tt
  where
    drop_none : (j : ℕ) → drop {A = Tree} (j + 1) [] ≡ []
    drop_none j = drop_all (j + 1) [] (omega arith)

placed_behind : (t : Tree) (statics : Option Level) (j : ℕ) (b : Bool) (text : List ℕ) (vars : Scopes)
    → Placed t (cond b (piece.Ends (Raised too_long))
    (pieces_from statics vars (drop (j + 1) (pieces_of t)) (j + 1) text))
placed_behind (tree.plain x) statics j b text vars = placed_none (tree.plain x) statics vars j b text refl
placed_behind (tree.variable name) statics j b text vars =
    placed_none (tree.variable name) statics vars j b text refl
placed_behind (tree.element name ts) statics j b text vars = placed_with (tree.element name ts) _ tt
placed_behind (tree.word ts) statics j b text vars = placed_with (tree.word ts) _ tt
placed_behind (tree.script ts) statics j b text vars = placed_none (tree.script ts) statics vars j b text refl
placed_behind (tree.command v ts) statics j b text vars =
    placed_none (tree.command v ts) statics vars j b text refl
placed_behind (tree.expr t) statics j b text vars = placed_none (tree.expr t) statics vars j b text refl
placed_behind (tree.branches vs last) statics j b text vars =
    placed_none (tree.branches vs last) statics vars j b text refl
placed_behind (tree.choice vs last) statics j b text vars =
    placed_none (tree.choice vs last) statics vars j b text refl
placed_behind (tree.loop s t n u) statics j b text vars =
    placed_none (tree.loop s t n u) statics vars j b text refl
placed_behind (tree.each ts u) statics j b text vars = placed_none (tree.each ts u) statics vars j b text refl
placed_behind (tree.switch k ts bs) statics j b text vars =
    placed_none (tree.switch k ts bs) statics vars j b text refl
placed_behind (tree.catch u) statics j b text vars = placed_none (tree.catch u) statics vars j b text refl
placed_behind (tree.catch_in u n) statics j b text vars =
    placed_none (tree.catch_in u n) statics vars j b text refl
placed_behind tree.next_body statics j b text vars = placed_none tree.next_body statics vars j b text refl
placed_behind (tree.prefixed ops t) statics j b text vars =
    placed_none (tree.prefixed ops t) statics vars j b text refl
placed_behind (tree.row t os) statics j b text vars = placed_none (tree.row t os) statics vars j b text refl

module _ {H : Type 0} (g : Setting H) (r : Room) where
  abbrev i : Inner H
  i = inner_of g r

  pieces_row : (t : Tree) → pieces_in g i t ≡ each g i one 0 (pieces_of t)
  pieces_row (tree.element name ts) = evals_each g i one 0 ts
  pieces_row (tree.word ts) = evals_each g i one 0 ts
  pieces_row other = refl

  pieces_left : (t : Tree) (k : ℕ) → drop k (pieces_in g i t) ≡ each g i one k (drop k (pieces_of t))
  pieces_left t k = ap (λ l. drop k l) (pieces_row t) ∙ drop_each g i one k (pieces_of t)

  whole_out : (t : Tree) (text p : List ℕ) (st : State H)
      → text_end g t text p st ≡ Ends (whole_code g.statics st.vars t text) st
  whole_out (tree.plain x) text p st = refl
  whole_out (tree.variable name) text p st = refl
  whole_out (tree.element name ts) text p st = refl
  whole_out (tree.word ts) text p st = refl
  whole_out (tree.script ts) text p st = refl
  whole_out (tree.command v ts) text p st = refl
  whole_out (tree.expr t) text p st = refl
  whole_out (tree.branches vs last) text p st = refl
  whole_out (tree.choice vs last) text p st = refl
  whole_out (tree.loop s t n b) text p st = refl
  whole_out (tree.each ts b) text p st = refl
  whole_out (tree.switch k ts bs) text p st = refl
  whole_out (tree.catch b) text p st = refl
  whole_out (tree.catch_in b n) text p st = refl
  whole_out tree.next_body text p st = refl
  whole_out (tree.prefixed ops t) text p st = refl
  whole_out (tree.row t os) text p st = refl

  piece_at : (t : Tree) (p : List ℕ) (x : Piece) (vars : Scopes) (h : H) (more : List Reply) (budget cost : ℕ)
      (acts : List Act) → Placed t x
      → piece_out g i t (pieces_of t) one (text_end g t) x p (state vars h more budget cost acts)
      ≡ stands g r t (pieces_next g.statics vars t x) p (state vars h more budget cost acts)
  piece_at t p (piece.Whole text) vars h more budget cost acts q =
      whole_out t text p (state vars h more budget cost acts)
  piece_at t p (piece.Ends c) vars h more budget cost acts q = refl
  piece_at t p (piece.Child j text) vars h more budget cost acts q =
      rw (
        ← q,
        pieces_left t (j + 1),
        heard_true
            (eval g i (child_at t j) (p ++ j ∷ []) (state vars h more budget cost acts)),
      ) refl

  pieces_comes : (t : Tree) (w : Bool) (vars : Scopes) (budget : ℕ) → HasPieces t → (whole : Meaning H)
      → ((p : List ℕ) (st : State H) → whole p st ≡ in_word (text_end g t) (pieces_in g i t) [] p st)
      → Comes g r w t whole vars budget (still budget vars (pieces_begin g.statics vars t))
  pieces_comes t w vars budget q whole e = record {
    same = λ p h more cost acts. ap (heard w)
        (e p (state vars h more budget cost acts)
        ∙ ap (λ ms. in_word (text_end g t) ms [] p (state vars h more budget cost acts)) (pieces_row t)
        ∙ pieces_are g i t (pieces_of t) one 1 (text_end g t) (λ x. refl) (pieces_of t) 0 refl [] p vars h
        more budget cost acts
        ∙ piece_at t p (pieces_from g.statics vars (pieces_of t) 0 []) vars h more budget
        (cost + pieces_cost 1 g.statics vars (pieces_of t) []) acts (placed_with t _ q));
  }

  pub word_begins : (ts : Trees) (w : Bool) (vars : Scopes) (budget : ℕ)
      → Comes g r w (tree.word ts) (eval g i (tree.word ts)) vars budget
      (still budget vars (pieces_begin g.statics vars (tree.word ts)))
  word_begins ts w vars budget =
      pieces_comes (tree.word ts) w vars budget tt (eval g i (tree.word ts)) (λ p st. refl)

  pub element_begins : (name : List ℕ) (ts : Trees) (w : Bool) (vars : Scopes) (budget : ℕ)
      → Comes g r w (tree.element name ts) (eval g i (tree.element name ts)) vars budget
      (still budget vars (pieces_begin g.statics vars (tree.element name ts)))
  element_begins name ts w vars budget =
      pieces_comes (tree.element name ts) w vars budget tt (eval g i (tree.element name ts)) (λ p st. refl)

  behind_within : (t : Tree) (j : ℕ) (b : Bool) (text p : List ℕ) (vars : Scopes) (h : H) (more : List Reply)
      (budget cost : ℕ) (acts : List Act)
      → Placed t (cond b (piece.Ends (Raised too_long))
      (pieces_from g.statics vars (drop (j + 1) (pieces_of t)) (j + 1) text))
      → cond b (Ends (Raised too_long) (state vars h more budget cost acts))
      (in_word (text_end g t) (drop (j + 1) (pieces_in g i t)) text p (state vars h more budget cost acts))
      ≡ stands g r t (pieces_next g.statics vars t
      (cond b (piece.Ends (Raised too_long))
      (pieces_from g.statics vars (drop (j + 1) (pieces_of t)) (j + 1) text))) p
      (state vars h more budget (cost + cond b 0
      (pieces_cost 1 g.statics vars (drop (j + 1) (pieces_of t)) text)) acts)
  behind_within t j true text p vars h more budget cost acts q = rw add-zero refl
  behind_within t j false text p vars h more budget cost acts q =
      ap (λ ms. in_word (text_end g t) ms text p (state vars h more budget cost acts)) (pieces_left t (j + 1))
      ∙ pieces_are g i t (pieces_of t) one 1 (text_end g t) (λ x. refl) (drop (j + 1) (pieces_of t)) (j + 1)
      refl text p vars h more budget cost acts
      ∙ piece_at t p (pieces_from g.statics vars (drop (j + 1) (pieces_of t)) (j + 1) text) vars h more budget
      (cost + pieces_cost 1 g.statics vars (drop (j + 1) (pieces_of t)) text) acts q

  pub pieces_goes_on : (t : Tree) (j : ℕ) (text : List ℕ) (w : Bool) (c : Code) (vars : Scopes) (budget : ℕ)
      → Comes g r w t (goes_on g r t (frame.Pieces j text) c) vars budget
      (still budget vars (pieces_goes g.statics vars t j text c))
  pieces_goes_on t j text w (Value v) vars budget = record {
    same = λ p h more cost acts.
        let b = nat_lt text_limit (length (text ++ v)) in
        ap (heard w) (behind_within t j b (text ++ v) p vars h more budget cost acts
        (placed_behind t g.statics j b (text ++ v) vars));
  }
  pieces_goes_on t j text w other vars budget = record { same = λ p h more cost acts. rw add-zero refl }

-- what they owe
module _ (statics : Option Level) (vars : Scopes) (t : Tree) where
  next_owes : (x : Piece) → due (pieces_next statics vars t x) ≤ 2
  next_owes (piece.Whole text) = let k = back_owes (whole_code statics vars t text) in omega (arith, k)
  next_owes (piece.Ends c) = let k = back_owes c in omega (arith, k)
  next_owes (piece.Child j text) = omega arith

  next_ready : (procedures : List Procedure) (x : Piece) → Placed t x → PieceReady t (pieces_of t) x
      → Ready procedures t (pieces_next statics vars t x)
  next_ready procedures (piece.Whole text) q k = tt
  next_ready procedures (piece.Ends c) q k = tt
  next_ready procedures (piece.Child j text) q k = rw q k

  pub pieces_go_owes : (j : ℕ) (text : List ℕ) (c : Code)
      → 1 + due (pieces_goes statics vars t j text c).next
      ≤ 1 + mode_owed (mode.Back c) + 3 * (pieces_goes statics vars t j text c).cost
  pieces_go_owes j text (Value v) = let k = next_owes (pieces_behind statics vars (pieces_of t) j text v) in
      omega (arith, k)
  pieces_go_owes j text other = omega arith

  ready_within : (j : ℕ) (b : Bool) (text : List ℕ)
      → PieceReady t (pieces_of t) (cond b (piece.Ends (Raised too_long))
      (pieces_from statics vars (drop (j + 1) (pieces_of t)) (j + 1) text))
  ready_within j true text = tt
  ready_within j false text = pieces_ready statics vars t (pieces_of t) (drop (j + 1) (pieces_of t)) (j + 1)
      refl text

  pub pieces_go_ready : (procedures : List Procedure) (j : ℕ) (text : List ℕ) (c : Code)
      → Ready procedures t (pieces_goes statics vars t j text c).next
  pieces_go_ready procedures j text (Value v) =
      let b = nat_lt text_limit (length (text ++ v)) in
      next_ready procedures (pieces_behind statics vars (pieces_of t) j text v)
      (placed_behind t statics j b (text ++ v) vars) (ready_within j b (text ++ v))
  pieces_go_ready procedures j text other = tt

  pub pieces_begin_ready : (procedures : List Procedure) → HasPieces t
      → Ready procedures t (pieces_begin statics vars t).next
  pieces_begin_ready procedures q =
      next_ready procedures (pieces_from statics vars (pieces_of t) 0 []) (placed_with t _ q)
      (pieces_ready statics vars t (pieces_of t) (pieces_of t) 0 refl [])

pub pieces_begin_owes : (statics : Option Level) (vars : Scopes) (t : Tree) → HasPieces t → is_flat t ≡ false
    → due (pieces_begin statics vars t).next ≤ 3 * (pieces_begin statics vars t).cost
pieces_begin_owes statics vars (tree.word no_trees) q e = absurd (cc e)
pieces_begin_owes statics vars (tree.word (and_tree t ts)) q e = let k =
    next_owes statics vars (tree.word (and_tree t ts)) (pieces_from statics vars (t ∷ all ts) 0 []) in
    omega (arith, k)
pieces_begin_owes statics vars (tree.element name no_trees) q e = absurd (cc e)
pieces_begin_owes statics vars (tree.element name (and_tree t ts)) q e = let k =
    next_owes statics vars (tree.element name (and_tree t ts)) (pieces_from statics vars (t ∷ all ts) 0 []) in
    omega (arith, k)
pieces_begin_owes statics vars other q e = absurd q
