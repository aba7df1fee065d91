-- The moves of nodes with words, and of what ends at once.
use Rattle.std.proofs.Common.{◌≡◌, refl, ap, ◌∙◌, ℕ, ◌+◌, ◌≤◌, List, [], ◌++◌, Bool, true, Some, None, append-nil, arith}
use Rattle.px_bytes.specs.declared.fault.Reply.{Reply}
use Rattle.tcl_trees.specs.Procedures.{Procedure}
use Rattle.tcl_trees.specs.Tree.{Tree}
use Rattle.tcl_trees.specs.Tree as tree
use Rattle.tcl_trees.specs.declared.node.Verb.{Verb}
use Rattle.tcl_trees.specs.declared.node.Verb.TheVariants as verb
use Rattle.tcl_vars.specs.Scopes.{Scopes}
use Rattle.rule_model.specs.Commands.{command}
use Rattle.rule_model.specs.Host.{Effect}
use Rattle.rule_model.specs.Outcome.{Act, State, state, Ends, Meaning, heard}
use Rattle.rule_model.specs.Setting.{Setting, Inner}
use Rattle.rule_model.specs.declared.code.Code.{Code}
use Rattle.rule_model.specs.declared.code.Code.TheVariants.{Value, Raised, Return, Break, Continue}
use Rattle.frame_words.specs.Commands.{Finished, done_out, next_after}
use Rattle.frame_words.specs.FirstWords.{first_cost, first_words, has_words, word_verb}
use Rattle.frames.specs.Frames.{inner_of, words_end}
use Rattle.frame_words.specs.Gathered.{words_out}
use Rattle.frames.specs.Leafs.{leaf_code}
use Rattle.frames.specs.Moves.{Moved, Now, Ready, begins, due, goes_on, now, stands, state_at, stop}
use Rattle.frames.specs.Owed.{is_flat}
use Rattle.frame_words.specs.Words.{word_behind, word_behind_cost}
use Rattle.frame_words.specs.declared.commands.Done.{Done}
use Rattle.frame_words.specs.declared.commands.Done.TheVariants as done
use Rattle.frames.specs.declared.frame.Frame.TheVariants as frame
use Rattle.frames.specs.declared.frame.Mode.TheVariants as mode
use Rattle.frames.specs.declared.frame.Room.{Room}
use Rattle.frames.specs.declared.next.Next.{Next}
use Rattle.frame_words.specs.declared.words.Gathered.TheVariants as gathered
use Rattle.frames.proofs.Heard.{heard_true}
use Rattle.frames.proofs.InMoves.{moved_after}
use Rattle.frame_words.proofs.InScripts.{back_owes}
use Rattle.frames.proofs.LeafViews.{leaf_eval}
use Rattle.frame_words.proofs.WordGoes.{behind_are, first_are}

module _ {H : Type 0} (g : Setting H) (r : Room) (w : Bool) (t : Tree) where
  pub stop_moved : (whole : Meaning H) (old : Now H) (c : Code) (made : List Effect → Type 0)
      → ((p : List ℕ) (more : List Reply) (cost : ℕ) (acts : List Act)
      → whole p (state_at old more cost acts) ≡ Ends c (state_at old more cost acts)) → made []
      → Moved g r w t whole old old (stop c) made
  stop_moved whole old c made e m = record {
    acts = [];
    same = λ p more cost before. rw append-nil (ap (heard w) (e p more cost before));
    by = m;
    called = None;
    once = (refl, refl);
  }

  pub flat_moved : (vars : Scopes) (h : H) (budget a : ℕ) (made : List Effect → Type 0) → is_flat t ≡ true
      → made [] → Moved g r w t (begins g r t) (now vars h budget a) (now vars h budget a)
      (stop (leaf_code g.statics vars t)) made
  flat_moved vars h budget a made f m =
      stop_moved (begins g r t) (now vars h budget a) (leaf_code g.statics vars t) made
      (λ p more cost acts. leaf_eval g (inner_of g r) t p (state vars h more budget (cost + a) acts) f) m

  pub child_moved : (old : Now H) (k j : ℕ) (done : List (List ℕ)) (text : List ℕ)
      (made : List Effect → Type 0) → made []
      → Moved g r w t (words_out g (inner_of g r) t (gathered.Child k j done text)) old old
      (record { frame = Some (frame.Words k j done text); mode = mode.Begin }) made
  child_moved old k j done text made m = record {
    acts = [];
    same = λ p more cost before. rw (append-nil before, heard_true) refl;
    by = m;
    called = None;
    once = (refl, refl);
  }

  pub first_moved : (vars : Scopes) (h : H) (budget a b : ℕ) (new : Now H) (next : Next)
      (made : List Effect → Type 0) → has_words t ≡ true → b ≡ a + first_cost g.statics vars t
      → Moved g r w t (words_out g (inner_of g r) t (first_words g.statics vars t)) (now vars h budget b) new
      next made → Moved g r w t (begins g r t) (now vars h budget a) new next made
  first_moved vars h budget a b new next made q e m =
      moved_after g r w t (begins g r t) (words_out g (inner_of g r) t (first_words g.statics vars t)) vars h
      budget a b (first_cost g.statics vars t) new next made
      (λ p more cost acts. first_are g (inner_of g r) t p vars h more budget cost acts q) e m

  pub behind_moved : (k j : ℕ) (done : List (List ℕ)) (text v : List ℕ) (vars : Scopes) (h : H)
      (budget a b : ℕ) (new : Now H) (next : Next) (made : List Effect → Type 0)
      → b ≡ a + word_behind_cost g.statics vars t k j done text v
      → Moved g r w t (words_out g (inner_of g r) t (word_behind g.statics vars t k j done text v))
      (now vars h budget b) new next made
      → Moved g r w t (goes_on g r t (frame.Words k j done text) (Value v)) (now vars h budget a) new next
      made
  behind_moved k j done text v vars h budget a b new next made e m =
      moved_after g r w t (goes_on g r t (frame.Words k j done text) (Value v))
      (words_out g (inner_of g r) t (word_behind g.statics vars t k j done text v)) vars h budget a b
      (word_behind_cost g.statics vars t k j done text v) new next made
      (λ p more cost acts. behind_are g (inner_of g r) t k j done text v p vars h more budget cost acts) e m

  done_next : (d : Done) (p : List ℕ) (st : State H) → done_out d p st ≡ stands g r t (next_after d) p st
  done_next (done.Ends c) p st = refl
  done_next (done.Asks call) p st = rw (append-nil p) refl

  pub finished_moved : (v : Verb) (words : List (List ℕ)) (vars vars' : Scopes) (h h' : H) (budget a : ℕ)
      (d : Done) (made : List Effect → Type 0)
      → ((p : List ℕ) (st : State H)
      → words_end g (inner_of g r) t words p st ≡ command g (inner_of g r) v words p st)
      → Finished g w v words vars vars' h h' d made
      → Moved g r w t (words_end g (inner_of g r) t words) (now vars h budget a) (now vars' h' budget a)
      (next_after d) made
  finished_moved v words vars vars' h h' budget a d made e f = record {
    acts = f.acts;
    same = λ p more cost before.
        ap (heard w) (e p (state vars h more budget (cost + a) before))
        ∙ f.same (inner_of g r) p more budget (cost + a) before
        ∙ ap (heard w) (done_next d p (state vars' h' more budget (cost + a) (before ++ f.acts)));
    by = f.by;
    called = f.called;
    once = f.once;
  }

verb_end : {H : Type 0} (g : Setting H) (i : Inner H) (t : Tree) (v : Verb) (words : List (List ℕ))
    (p : List ℕ) (st : State H) → Some v ≡ word_verb t → words_end g i t words p st ≡ command g i v words p st
verb_end g i (tree.command verb.Named ts) v words p st e = let s : verb.Named ≡ v = cc e in
    ap (λ u. command g i u words p st) s
verb_end g i (tree.command verb.Computed ts) v words p st e = let s : verb.Computed ≡ v = cc e in
    ap (λ u. command g i u words p st) s
verb_end g i (tree.command verb.Set ts) v words p st e = let s : verb.Set ≡ v = cc e in
    ap (λ u. command g i u words p st) s
verb_end g i (tree.command verb.Unset ts) v words p st e = let s : verb.Unset ≡ v = cc e in
    ap (λ u. command g i u words p st) s
verb_end g i (tree.command verb.Incr ts) v words p st e = let s : verb.Incr ≡ v = cc e in
    ap (λ u. command g i u words p st) s
verb_end g i (tree.command verb.Append ts) v words p st e = let s : verb.Append ≡ v = cc e in
    ap (λ u. command g i u words p st) s
verb_end g i (tree.command verb.Lappend ts) v words p st e = let s : verb.Lappend ≡ v = cc e in
    ap (λ u. command g i u words p st) s
verb_end g i (tree.command verb.Array ts) v words p st e = let s : verb.Array ≡ v = cc e in
    ap (λ u. command g i u words p st) s
verb_end g i (tree.command verb.Info ts) v words p st e = let s : verb.Info ≡ v = cc e in
    ap (λ u. command g i u words p st) s
verb_end g i (tree.command verb.Return ts) v words p st e = let s : verb.Return ≡ v = cc e in
    ap (λ u. command g i u words p st) s
verb_end g i (tree.command verb.Break ts) v words p st e = let s : verb.Break ≡ v = cc e in
    ap (λ u. command g i u words p st) s
verb_end g i (tree.command verb.Continue ts) v words p st e = let s : verb.Continue ≡ v = cc e in
    ap (λ u. command g i u words p st) s
verb_end g i (tree.command verb.Error ts) v words p st e = let s : verb.Error ≡ v = cc e in
    ap (λ u. command g i u words p st) s
verb_end g i other v words p st e = absurd (cc e)

pub not_call : (t : Tree) (v : Verb) → Some v ≡ word_verb t → (v ≡ verb.Call → ⊥) × (v ≡ verb.ExprOfWords → ⊥)
not_call (tree.command verb.Named ts) v e = let s : verb.Named ≡ v = cc e in
    (λ q. cc (s ∙ q), λ q. cc (s ∙ q))
not_call (tree.command verb.Computed ts) v e = let s : verb.Computed ≡ v = cc e in
    (λ q. cc (s ∙ q), λ q. cc (s ∙ q))
not_call (tree.command verb.Set ts) v e = let s : verb.Set ≡ v = cc e in (λ q. cc (s ∙ q), λ q. cc (s ∙ q))
not_call (tree.command verb.Unset ts) v e = let s : verb.Unset ≡ v = cc e in
    (λ q. cc (s ∙ q), λ q. cc (s ∙ q))
not_call (tree.command verb.Incr ts) v e = let s : verb.Incr ≡ v = cc e in (λ q. cc (s ∙ q), λ q. cc (s ∙ q))
not_call (tree.command verb.Append ts) v e = let s : verb.Append ≡ v = cc e in
    (λ q. cc (s ∙ q), λ q. cc (s ∙ q))
not_call (tree.command verb.Lappend ts) v e = let s : verb.Lappend ≡ v = cc e in
    (λ q. cc (s ∙ q), λ q. cc (s ∙ q))
not_call (tree.command verb.Array ts) v e = let s : verb.Array ≡ v = cc e in
    (λ q. cc (s ∙ q), λ q. cc (s ∙ q))
not_call (tree.command verb.Info ts) v e = let s : verb.Info ≡ v = cc e in (λ q. cc (s ∙ q), λ q. cc (s ∙ q))
not_call (tree.command verb.Return ts) v e = let s : verb.Return ≡ v = cc e in
    (λ q. cc (s ∙ q), λ q. cc (s ∙ q))
not_call (tree.command verb.Break ts) v e = let s : verb.Break ≡ v = cc e in
    (λ q. cc (s ∙ q), λ q. cc (s ∙ q))
not_call (tree.command verb.Continue ts) v e = let s : verb.Continue ≡ v = cc e in
    (λ q. cc (s ∙ q), λ q. cc (s ∙ q))
not_call (tree.command verb.Error ts) v e = let s : verb.Error ≡ v = cc e in
    (λ q. cc (s ∙ q), λ q. cc (s ∙ q))
not_call other v e = absurd (cc e)

pub word_verb_moved : {H : Type 0} (g : Setting H) (r : Room) (w : Bool) (t : Tree) (v : Verb)
    (words : List (List ℕ)) (vars vars' : Scopes) (h h' : H) (budget a : ℕ) (d : Done)
    (made : List Effect → Type 0) → Some v ≡ word_verb t
    → Finished g w v words vars vars' h h' d made
    → Moved g r w t (words_end g (inner_of g r) t words) (now vars h budget a) (now vars' h' budget a)
    (next_after d) made
word_verb_moved g r w t v words vars vars' h h' budget a d made e f =
    finished_moved g r w t v words vars vars' h h' budget a d made
    (λ p st. verb_end g (inner_of g r) t v words p st e) f

pub done_owes : (d : Done) → due (next_after d) ≤ 2
done_owes (done.Ends c) = let k = back_owes c in omega (arith, k)
done_owes (done.Asks call) = omega arith

pub done_ready : (procedures : List Procedure) (t : Tree) (d : Done) → Ready procedures t (next_after d)
done_ready procedures t (done.Ends c) = tt
done_ready procedures t (done.Asks call) = tt

-- a code that is no value ends the words
words_stop : {H : Type 0} (g : Setting H) (r : Room) (t : Tree) (k j : ℕ) (done : List (List ℕ)) (text : List ℕ) (c : Code) → ((v : List ℕ) → c ≡ Value v → ⊥) → (p : List ℕ) (st : State H) → goes_on g r t (frame.Words k j done text) c p st ≡ Ends c st
words_stop g r t k j done text (Value v) h p st = absurd (h v refl)
words_stop g r t k j done text (Raised f) h p st = refl
words_stop g r t k j done text (Return v) h p st = refl
words_stop g r t k j done text Break h p st = refl
words_stop g r t k j done text Continue h p st = refl

pub words_moved : {H : Type 0} (g : Setting H) (r : Room) (w : Bool) (t : Tree) (k j : ℕ) (done : List (List ℕ)) (text : List ℕ) (c : Code) (old : Now H) (made : List Effect → Type 0) → ((v : List ℕ) → c ≡ Value v → ⊥) → made []
    → Moved g r w t (goes_on g r t (frame.Words k j done text) c) old old (stop c) made
words_moved g r w t k j done text c old made h m = stop_moved g r w t (goes_on g r t (frame.Words k j done text) c) old c made (λ p more cost acts. words_stop g r t k j done text c h p (state_at old more cost acts)) m
