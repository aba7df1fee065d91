-- Commands: calls of procedures, expressions that are read when they run, and those of the host.
use Rattle.plain_eval.proofs.Vocabulary
use Vocabulary.{Bool, List, Ok, Result, [], ap, arith, false, map, refl, suc, sym, true, zero, ℕ}
use Vocabulary.{◌+◌, ◌-◌, ◌∙◌, ◌∷◌, ◌≡◌, ◌≤◌, TclFault, Tree, Verb, Changed, Scopes, in_proc}
use Vocabulary.{out_of_proc, alone, Bound, code_left, command, deeper, entered, expression_read}
use Vocabulary.{leave, named_command, too_deep, eval, inner, Ends, Meaning, Outcome, State, Waits}
use Vocabulary.{answered, heard_code, paid, then_code, unvalued, Inner, Setting, Code, Raised}
use Vocabulary.{Value, Is, Leaves, EndsAs, Ran, Stand, from, stand, End, Run}
use Rattle.tcl_trees.specs.declared.node.Verb.TheVariants as verb
use Rattle.tcl_var_commands.specs.Assigning.{row_assigned}
use Rattle.rule_nodes.specs.Own.{is_own, is_pure_call}
use Rattle.plain_eval.specs.declared.run.End.TheVariants as end
use Rattle.plain_eval.proofs.Steps.{changing, code_ran, code_waits, is_code, is_heard, with_vars}

-- how many more may nest
pub none_more : (n : ℕ) → (1 ≤ n → ⊥) → n ≡ 0
none_more zero h = refl
none_more (suc n) h = absurd (h (omega arith))

pub one_more : (n m : ℕ) → (1 ≤ n) × (m ≡ n - 1) → n ≡ suc m
one_more n m h = omega (arith, h.0, h.1)

left_by : (c : Code) → heard_code false (code_left c) ≡ heard_code false (code_left (unvalued c))
left_by (Value v) = refl
left_by other = refl

-- the same code, heard or not, leaves a call as the same
left_same : (w : Bool) (c d : Code) → heard_code w c ≡ heard_code w d
    → heard_code w (code_left c) ≡ heard_code w (code_left d)
left_same true c d h = ap code_left h
left_same false c d h = left_by c ∙ ap (λ x. heard_code false (code_left x)) h ∙ sym (left_by d)

module _ {H : Type 0} (g : Setting H) where
  -- what sets the parameters, and the body where one call more may nest
  abbrev pub set_by : Bound → Scopes → Changed
  set_by b vars = row_assigned g.statics (map (λ q. q.name) b.procedure.parameters) b.values vars

  abbrev pub body_in : (e n : ℕ) → Bound → Meaning H
  body_in e n b path st = deeper (inner g e n).call b.procedure.body path st

  pub body_deep : {w : Bool} {s : Stand H} (e n : ℕ) (b : Bound) (end : End) → n ≡ 0 → Is (Raised too_deep) end → Ran w (body_in e n b) s end s
  body_deep e n b end none fault = rw none (code_ran (Raised too_deep) end fault)

  pub body_ran : {w : Bool} {s out : Stand H} {end : End} (e n m : ℕ) (b : Bound) → n ≡ suc m → Ran w (eval g (inner g e m) b.procedure.body) s end out → Ran w (body_in e n b) s end out
  body_ran e n m b some ran = rw some (record { by = λ path cost acts. ran.by path cost acts })

  -- a body's end leaves its level
  leave_at : (w : Bool) (o : Outcome H) (e : End) (old new : Run) (host : H) → old.end ≡ e → EndsAs w o e (stand old host) → Leaves e old new → EndsAs w (then_code o leave) new.end (stand new host)
  leave_at w (Ends c st) (end.Done d) old new host at m h =
      rw (h.1, m.1) (is_heard w (code_left c) (code_left d) new.end (with_vars (out_of_proc old.vars) (stand old host)) st.cost st.acts h.0 (left_same w c d m.0))
  leave_at w (Waits p call st) (end.Done d) old new host at m h = absurd m
  leave_at w o (end.Waits asked) old new host at m h = rw (h, at) (code_waits w w o leave asked (stand old host) m)
  leave_at w o end.Memory old new host at m h = rw (h, at) tt

  pub call_ran : (w : Bool) (e n : ℕ) (b : Bound) (s : Stand H) (old new : Run) (host : H) → Ran w (changing (set_by b) (body_in e n b)) (with_vars (in_proc s.vars) s) old.end (stand old host) → Leaves old.end old new
      → Ran w (entered g (inner g e n) b) s new.end (stand new host)
  call_ran w e n b s old new host ran h =
      record { by = λ path cost acts. leave_at w (changing (set_by b) (body_in e n b) path (from (with_vars (in_proc s.vars) s) cost acts)) old.end old new host refl (ran.by path cost acts) h }

  -- an expression that is read when it runs
  abbrev pub read : (e n : ℕ) → Result Tree TclFault → Meaning H
  read e n tree = expression_read (inner g e n) tree

  deeper_none : (n : ℕ) (tree : Tree) (path : List ℕ) (st : State H) → deeper (inner g 0 n).expression tree path st ≡ Ends (Raised too_deep) st
  deeper_none zero tree path st = refl
  deeper_none (suc n) tree path st = refl

  deeper_at : (e n : ℕ) (tree : Tree) (path : List ℕ) (st : State H) → deeper (inner g (suc e) n).expression tree path st ≡ eval g (inner g e n) tree path st
  deeper_at e zero tree path st = refl
  deeper_at e (suc n) tree path st = refl

  pub read_deep : (e n : ℕ) (tree : Tree) (end : End) (s : Stand H) → e ≡ 0 → Is (Raised too_deep) end → Ran true (read e n (Ok tree)) s end s
  read_deep e n tree end s none fault = rw none (record {
    by = λ path cost acts. rw (deeper_none n tree path (from s (cost + alone tree) acts)) (is_code true (Raised too_deep) end s (cost + alone tree) acts fault);
  })

  pub read_ran : {s mid : Stand H} {end : End} (e n d : ℕ) (tree : Tree) → e ≡ suc d → Ran true (eval g (inner g d n) tree) s end mid → Ran true (λ path st. deeper (inner g e n).expression tree path (paid (alone tree) st)) s end mid
  read_ran e n d tree some ran = rw some (record { by = λ path cost acts. rw (deeper_at d n tree path _) (ran.by path (cost + alone tree) acts) })

-- ---- commands that evaluate nothing more than their words, and those of the host
module _ {H : Type 0} (g : Setting H) (i : Inner H) where
  host_named : (ws : List (List ℕ)) (path : List ℕ) (st : State H) → is_pure_call ws ≡ false → named_command g ws path st ≡ answered (g.table st.host ws) path st
  host_named [] path st is = cc
  host_named (name ∷ ws) path st is = rw is refl

  -- one of the host
  host_by : (v : Verb) (ws : List (List ℕ)) (path : List ℕ) (st : State H) → (v ≡ verb.Call → ⊥) → (v ≡ verb.ExprOfWords → ⊥) → is_own v ws ≡ false → command g i v ws path st ≡ answered (g.table st.host ws) path st
  host_by verb.Named ws path st a b is = host_named ws path st is
  host_by verb.Computed ws path st a b is = host_named ws path st is
  host_by verb.Call ws path st a b is = absurd (a refl)
  host_by verb.ExprOfWords ws path st a b is = absurd (b refl)
  host_by other ws path st a b is = cc

  pub host_ran : (v : Verb) (ws : List (List ℕ)) {s : Stand H} {e : End} {after : Stand H} → (v ≡ verb.Call → ⊥) → (v ≡ verb.ExprOfWords → ⊥) → is_own v ws ≡ false → Ran true (answered (g.table s.host ws)) s e after
      → Ran true (command g i v ws) s e after
  host_ran v ws {s = s} a b is ran = record { by = λ path cost acts. rw (host_by v ws path (from s cost acts) a b is) (ran.by path cost acts) }
