-- What an evaluation leaves of the state before it: laws of one evaluation.
use Rattle.std.proofs.Common.{◌≡◌, refl, sym, ap, ◌∙◌, ℕ, ◌≤◌, List, [], ◌∷◌, ◌++◌, map, Bool, true, false, if◌then◌else◌}
use Rattle.std.proofs.Common.{append_assoc, arith, zero, suc, Result, Ok, Err}
use Rattle.std.proofs.lemmas.List.{append-nil}
use Rattle.std.proofs.lemmas.Grind.{flat_map-append}
use Rattle.std.specs.List.{flat_map}
use Rattle.px_bytes.specs.declared.fault.Reply.{Reply}
use Rattle.px_bytes.specs.declared.fault.TclFault.{TclFault}
use Rattle.tcl_trees.specs.Tree.{Tree}
use Rattle.tcl_vars.specs.Scopes.{Level, Scopes, no_level, innermost, with_innermost, with_value_in, without_value_in, is_static, in_proc, without_innermost, out_of_proc}
use Rattle.tcl_var_commands.specs.Assigning.{row_assigned}
use Rattle.tcl_var_commands.proofs.Kept.{Changing, row_kept}
use Rattle.rule_model.specs.Host.{HostStep, Gives, Faults, Asks}
use Rattle.rule_model.specs.Outcome.{Act, Did, Called, State, Outcome, Ends, Waits, then_code, then_value, code_of, changed, paid, ask_in, answered}
use Rattle.rule_model.specs.declared.code.Code.{Code}
use Rattle.rule_model.specs.Setting.{Setting}
use Rattle.rule_model.specs.Commands.{left, leave, deeper, Bound, bound_of, entered, called, call_command}
use Rattle.rule_model.specs.Evaluator.{inner}
use Rattle.rule_model.specs.Laws.{meaning, state_after, Grows, StepShows, TableShows, ShowsActs, asks, waits, KeepsOuter, KeepsLevels}
use Rattle.rule_model.proofs.Alike.{with_vars, spent, Fact, Alike}
use Rattle.rule_model.proofs.Trees.{meaning_same}

-- one evaluation beside itself
abbrev pub Free : Scopes → Scopes → Type 0
Free a b = Unit {0}

pub free : Changing Free
free = record { same = λ a. tt; joins = λ a b c h k. tt; sets = λ a name index text. tt; unsets = λ a name index. tt }

itself : {H : Type 0} (table : H → List (List ℕ) → HostStep H) (Q : State H → Outcome H → Type 0) → Alike table table (λ a b. a ≡ b) (λ o p. Unit {0}) Q
itself table Q = record {
  vars = λ a b e. ap (λ st. st.vars) e;
  budget = λ a b e. ap (λ st. st.budget) e;
  sets = λ a b v e. ap (with_vars v) e;
  pays = λ a b n e. ap (paid n) e;
  spends = λ a b e. ap spent e;
  ends = λ a b c e. tt;
  joins = λ o p go on h k l. tt;
  leaves = λ o p h. tt;
  answers = λ a b words path e. tt;
}

pub holds : {H : Type 0} (V : Scopes → Scopes → Type 0) (c : Changing V) (Q : State H → Outcome H → Type 0) (g : Setting H) → Fact g.table V Q
    → (expressions calls : ℕ) (tree : Tree) (path : List ℕ) (st : State H) → Q st (meaning g expressions calls tree path st)
holds V c Q g f expressions calls tree path st =
    (meaning_same c (itself g.table Q) f g.statics g.procedures expressions calls tree path).1 st

-- what was done stays
still : {H : Type 0} (a b : State H) → b.acts ≡ a.acts → a.replies ≡ b.replies → a.cost ≤ b.cost → b.budget ≤ a.budget → Grows a b
still a b acts replies cost budget = record { acts = ([], acts ∙ sym (append-nil a.acts)); replies = ([], replies); cost = cost; budget = budget }

joined : {H : Type 0} (a b c : State H) → Grows a b → Grows b c → Grows a c
joined a b c p q = record {
  acts = (p.acts.0 ++ q.acts.0, q.acts.1 ∙ ap (λ x. x ++ q.acts.0) p.acts.1 ∙ append_assoc a.acts p.acts.0 q.acts.0);
  replies = (p.replies.0 ++ q.replies.0, p.replies.1 ∙ ap (λ x. p.replies.0 ++ x) q.replies.1 ∙ sym (append_assoc p.replies.0 q.replies.0 c.replies));
  cost = omega (arith, p.cost, q.cost);
  budget = omega (arith, p.budget, q.budget);
}

asked : {H : Type 0} (left : List Reply) (call : List (List ℕ)) (path : List ℕ) (a : State H) → a.replies ≡ left → Grows a (state_after (ask_in left call path a))
asked [] call path a is = record { acts = (Called path call ∷ [], refl); replies = ([], refl); cost = omega arith; budget = omega arith }
asked (r ∷ more) call path a is = record { acts = (Called path call ∷ [], refl); replies = (r ∷ [], is); cost = omega arith; budget = omega arith }

answers : {H : Type 0} (step : HostStep H) (path : List ℕ) (a : State H) → Grows a (state_after (answered step path a))
answers (Gives v h effects) path a = record { acts = (map Did effects, refl); replies = ([], refl); cost = omega arith; budget = omega arith }
answers (Faults f h effects) path a = record { acts = (map Did effects, refl); replies = ([], refl); cost = omega arith; budget = omega arith }
answers (Asks call h) path a =
    let b = record a { host = h } in
    let k = asked a.replies call path b refl in record { acts = k.acts; replies = k.replies; cost = k.cost; budget = k.budget }

abbrev pub Grown : {H : Type 0} → State H → Outcome H → Type 0
Grown a o = Grows a (state_after o)

then_grown : {H : Type 0} (b : State H) (p : Outcome H) (go : Code → State H → Outcome H) → Grown b p → ((c : Code) (d : State H) → Grown d (go c d)) → Grown b (then_code p go)
then_grown b (Ends c d) go h k = joined b d (state_after (go c d)) h (k c d)
then_grown b (Waits path call d) go h k = h

pub leave_grown : {H : Type 0} (c : Code) (d : State H) → Grown d (leave c d)
leave_grown c d = still d (left d) refl refl (omega arith) (omega arith)

before_grown : {H : Type 0} (b d : State H) (p : Outcome H) → d.acts ≡ b.acts → b.replies ≡ d.replies → b.cost ≤ d.cost → d.budget ≤ b.budget → Grown d p → Grown b p
before_grown b d p acts replies cost budget h = joined b d (state_after p) (still b d acts replies cost budget) h

pub grows : {H : Type 0} (table : H → List (List ℕ) → HostStep H) → Fact table Free Grown
grows table = record {
  ends = λ c b. still b b refl refl (omega arith) (omega arith);
  joins = then_grown;
  pays = λ n b p. before_grown b (paid n b) p refl refl (omega arith) (omega arith);
  spends = λ b p. before_grown b (spent b) p refl refl (omega arith) (omega arith);
  sets = λ b v p r. before_grown b (with_vars v b) p refl refl (omega arith) (omega arith);
  calls = λ b v p r h. then_grown b p leave (before_grown b (with_vars v b) p refl refl (omega arith) (omega arith) h) leave_grown;
  answers = λ b words path. answers (table b.host words) path b;
}

pub acts_stay : {H : Type 0} (g : Setting H) (expressions calls : ℕ) (tree : Tree) (path : List ℕ) (st : State H) → Grows st (state_after (meaning g expressions calls tree path st))
acts_stay g = holds Free free Grown g (grows g.table)

-- what is shown of the acts
same_host : {H M : Type 0} (of : Act → List M) (shown : H → List M) (a b : State H) → b.acts ≡ a.acts → b.host ≡ a.host → ShowsActs of shown a b
same_host of shown a b acts host = record {
  new = [];
  acts = acts ∙ sym (append-nil a.acts);
  grown = ap shown host ∙ sym (append-nil (shown a.host));
}

shows_joined : {H M : Type 0} (of : Act → List M) (shown : H → List M) (a b c : State H) → ShowsActs of shown a b → ShowsActs of shown b c → ShowsActs of shown a c
shows_joined of shown a b c p q = record {
  new = p.new ++ q.new;
  acts = q.acts ∙ ap (λ x. x ++ q.new) p.acts ∙ append_assoc a.acts p.new q.new;
  grown = q.grown ∙ ap (λ x. x ++ flat_map of q.new) p.grown ∙ append_assoc (shown a.host) (flat_map of p.new) (flat_map of q.new) ∙ ap (λ x. shown a.host ++ x) (sym (flat_map-append of p.new q.new));
}

shows_one : {M : Type 0} (of : Act → List M) (act : Act) → flat_map of (act ∷ []) ≡ of act
shows_one of act = append-nil (of act)

shows_asked : {H M : Type 0} (of : Act → List M) (shown : H → List M) (left : List Reply) (call : List (List ℕ)) (path : List ℕ) (h : H) (a : State H) → shown h ≡ shown a.host ++ of (Called path call)
    → ShowsActs of shown a (state_after (ask_in left call path (record a { host = h })))
shows_asked of shown [] call path h a is = record { new = Called path call ∷ []; acts = refl; grown = is ∙ ap (λ x. shown a.host ++ x) (sym (shows_one of (Called path call))) }
shows_asked of shown (r ∷ more) call path h a is = record { new = Called path call ∷ []; acts = refl; grown = is ∙ ap (λ x. shown a.host ++ x) (sym (shows_one of (Called path call))) }

shows_answers : {H M : Type 0} (of : Act → List M) (shown : H → List M) (step : HostStep H) (path : List ℕ) (a : State H) → StepShows of shown a.host step → ShowsActs of shown a (state_after (answered step path a))
shows_answers of shown (Gives v h effects) path a is = record { new = map Did effects; acts = refl; grown = is }
shows_answers of shown (Faults f h effects) path a is = record { new = map Did effects; acts = refl; grown = is }
shows_answers of shown (Asks call h) path a is = shows_asked of shown a.replies call path h a (is path)

abbrev Shown : {H M : Type 0} (of : Act → List M) (shown : H → List M) → State H → Outcome H → Type 0
Shown of shown a o = ShowsActs of shown a (state_after o)

then_shown : {H M : Type 0} (of : Act → List M) (shown : H → List M) (b : State H) (p : Outcome H) (go : Code → State H → Outcome H) → Shown of shown b p → ((c : Code) (d : State H) → Shown of shown d (go c d)) → Shown of shown b (then_code p go)
then_shown of shown b (Ends c d) go h k = shows_joined of shown b d (state_after (go c d)) h (k c d)
then_shown of shown b (Waits path call d) go h k = h

leave_shown : {H M : Type 0} (of : Act → List M) (shown : H → List M) (c : Code) (d : State H) → Shown of shown d (leave c d)
leave_shown of shown c d = same_host of shown d (left d) refl refl

shows : {H M : Type 0} (of : Act → List M) (shown : H → List M) (table : H → List (List ℕ) → HostStep H) → TableShows of shown table → Fact table Free (Shown of shown)
shows of shown table is = record {
  ends = λ c b. same_host of shown b b refl refl;
  joins = then_shown of shown;
  pays = λ n b p h. shows_joined of shown b (paid n b) (state_after p) (same_host of shown b (paid n b) refl refl) h;
  spends = λ b p h. shows_joined of shown b (spent b) (state_after p) (same_host of shown b (spent b) refl refl) h;
  sets = λ b v p r h. shows_joined of shown b (with_vars v b) (state_after p) (same_host of shown b (with_vars v b) refl refl) h;
  calls = λ b v p r h. then_shown of shown b p leave (shows_joined of shown b (with_vars v b) (state_after p) (same_host of shown b (with_vars v b) refl refl) h) (leave_shown of shown);
  answers = λ b words path. shows_answers of shown (table b.host words) path b (is b.host words);
}

pub host_shows : {H M : Type 0} (g : Setting H) (of : Act → List M) (shown : H → List M) → TableShows of shown g.table → (expressions calls : ℕ) (tree : Tree) (path : List ℕ) (st : State H) → ShowsActs of shown st (state_after (meaning g expressions calls tree path st))
host_shows g of shown is = holds Free free (Shown of shown) g (shows of shown g.table is)

-- no wait
abbrev Moves : {H : Type 0} → State H → Outcome H → Type 0
Moves b p = waits p ≡ false

then_moves : {H : Type 0} (b : State H) (p : Outcome H) (go : Code → State H → Outcome H) → Moves b p → ((c : Code) (d : State H) → Moves d (go c d)) → Moves b (then_code p go)
then_moves b (Ends c d) go h k = k c d
then_moves b (Waits path call d) go h k = h

leave_moves : {H : Type 0} (c : Code) (d : State H) → Moves d (leave c d)
leave_moves c d = refl

answered_moves : {H : Type 0} (step : HostStep H) → asks step ≡ false → (path : List ℕ) (b : State H) → Moves b (answered step path b)
answered_moves (Gives v h effects) is path b = refl
answered_moves (Faults f h effects) is path b = refl
answered_moves (Asks call h) is path b = cc

moves : {H : Type 0} (table : H → List (List ℕ) → HostStep H) → ((host : H) (words : List (List ℕ)) → asks (table host words) ≡ false) → Fact table Free Moves
moves table is = record {
  ends = λ c b. refl;
  joins = then_moves;
  pays = λ n b p h. h;
  spends = λ b p h. h;
  sets = λ b v p r h. h;
  calls = λ b v p r h. then_moves b p leave h leave_moves;
  answers = λ b words path. answered_moves (table b.host words) (is b.host words) path b;
}

pub never_waits : {H : Type 0} (g : Setting H) → ((host : H) (words : List (List ℕ)) → asks (g.table host words) ≡ false) → (expressions calls : ℕ) (tree : Tree) (path : List ℕ) (st : State H) → waits (meaning g expressions calls tree path st) ≡ false
never_waits g is = holds Free free Moves g (moves g.table is)

-- the levels outside the innermost
abbrev pub Outer : Scopes → Scopes → Type 0
Outer a b = (level : Level) (outer : List Level) → a.levels ≡ level ∷ outer → (now : Level) × (b.levels ≡ now ∷ outer)

level_put : (x level : Level) (outer levels : List Level) → levels ≡ level ∷ outer → with_innermost x levels ≡ x ∷ outer
level_put x level outer levels e = ap (with_innermost x) e

sets_by : (s : Bool) (a : Scopes) (x y : Level) (level : Level) (outer : List Level) → a.levels ≡ level ∷ outer
    → (now : Level) × ((if s then record a { statics = x } else record a { levels = with_innermost y a.levels }).levels ≡ now ∷ outer)
sets_by true a x y level outer e = (level, e)
sets_by false a x y level outer e = (y, level_put y level outer a.levels e)

pub outer_kept : Changing Outer
outer_kept = record {
  same = λ a level outer e. (level, e);
  joins = λ a b c h k level outer e. k (h level outer e).0 outer (h level outer e).1;
  sets = λ a name index text level outer e. sets_by (is_static name) a (with_value_in name index text a.statics) (with_value_in name index text (innermost a.levels)) level outer e;
  unsets = λ a name index level outer e. sets_by (is_static name) a (without_value_in name index a.statics) (without_value_in name index (innermost a.levels)) level outer e;
}

abbrev Within : {H : Type 0} → State H → Outcome H → Type 0
Within b p = (level : Level) (outer : List Level) → b.vars.levels ≡ level ∷ outer → KeepsOuter outer p

then_within : {H : Type 0} (b : State H) (p : Outcome H) (go : Code → State H → Outcome H) → Within b p → ((c : Code) (d : State H) → Within d (go c d)) → Within b (then_code p go)
then_within b (Ends c d) go h k level outer e = let now = h level outer e in k c d now.0 outer now.1
then_within b (Waits path call d) go h k level outer e = tt

-- a level that ends has one outside, which is there again
level_back : (d : Scopes) (now level : Level) (outer levels : List Level) → d.levels ≡ now ∷ levels → levels ≡ level ∷ outer → (out_of_proc d).levels ≡ level ∷ outer
level_back d now level outer levels e k = ap without_innermost e ∙ ap (λ x. without_innermost (now ∷ x)) k

calls_within : {H : Type 0} (b : State H) (v : Scopes) (p : Outcome H) → Outer (in_proc b.vars) v → Within (with_vars v b) p → Within b (then_code p leave)
calls_within b v (Ends c d) r h level outer e =
    let entered = r no_level b.vars.levels refl in
    let now = h entered.0 b.vars.levels entered.1 in
    (level, level_back d.vars now.0 level outer b.vars.levels now.1 e)
calls_within b v (Waits path call d) r h level outer e = tt

asked_within : {H : Type 0} (left : List Reply) (call : List (List ℕ)) (path : List ℕ) (b : State H) → Within b (ask_in left call path b)
asked_within [] call path b level outer e = tt
asked_within (r ∷ more) call path b level outer e = (level, e)

answered_within : {H : Type 0} (step : HostStep H) (path : List ℕ) (b : State H) → Within b (answered step path b)
answered_within (Gives v h effects) path b level outer e = (level, e)
answered_within (Faults f h effects) path b level outer e = (level, e)
answered_within (Asks call h) path b level outer e = asked_within b.replies call path (record b { host = h }) level outer e

within : {H : Type 0} (table : H → List (List ℕ) → HostStep H) → Fact table Outer Within
within table = record {
  ends = λ c b level outer e. (level, e);
  joins = then_within;
  pays = λ n b p h level outer e. h level outer e;
  spends = λ b p h level outer e. h level outer e;
  sets = λ b v p r h level outer e. let now = r level outer e in h now.0 outer now.1;
  calls = calls_within;
  answers = λ b words path. answered_within (table b.host words) path b;
}

pub callers_stay : {H : Type 0} (g : Setting H) (expressions calls : ℕ) (tree : Tree) (path : List ℕ) (st : State H) (level : Level) (outer : List Level) → st.vars.levels ≡ level ∷ outer → KeepsOuter outer (meaning g expressions calls tree path st)
callers_stay g expressions calls tree path st level outer e = holds Outer outer_kept Within g (within g.table) expressions calls tree path st level outer e

-- a call's own level goes with it
left_levels : {H : Type 0} (level : Level) (outer levels : List Level) (p : Outcome H) → levels ≡ level ∷ outer → KeepsOuter levels p → KeepsLevels (level ∷ outer) (then_code p leave)
left_levels level outer levels (Ends c d) e h = level_back d.vars h.0 level outer levels h.1 e
left_levels level outer levels (Waits path call d) e h = tt

value_outer : {H : Type 0} (outer : List Level) (r : Result (List ℕ) TclFault) (d : State H) (go : List ℕ → State H → Outcome H) → (level : Level) × (d.vars.levels ≡ level ∷ outer)
    → ((v : List ℕ) → KeepsOuter outer (go v d)) → KeepsOuter outer (then_value (Ends (code_of r) d) go)
value_outer outer (Ok v) d go now h = h v
value_outer outer (Err f) d go now h = now

body_outer : {H : Type 0} (g : Setting H) (expressions calls : ℕ) (tree : Tree) (path : List ℕ) (d : State H) (level : Level) (outer : List Level) → d.vars.levels ≡ level ∷ outer
    → KeepsOuter outer (deeper (inner g expressions calls).call tree path d)
body_outer g expressions zero tree path d level outer e = (level, e)
body_outer g expressions (suc calls) tree path d level outer e = callers_stay g expressions calls tree path d level outer e

entered_levels : {H : Type 0} (g : Setting H) (expressions calls : ℕ) (b : Bound) (path : List ℕ) (st : State H) (level : Level) (outer : List Level) → st.vars.levels ≡ level ∷ outer
    → KeepsLevels (level ∷ outer) (entered g (inner g expressions calls) b path st)
entered_levels {H} g expressions calls b path st level outer e =
    let names = map (λ q. q.name) b.procedure.parameters in
    let set = row_assigned g.statics names b.values (in_proc st.vars) in
    let inside : State H = record st { vars = set.vars } in
    let go = λ (v : List ℕ) (t : State H). deeper (inner g expressions calls).call b.procedure.body path t in
    let now = row_kept Outer outer_kept g.statics names b.values (in_proc st.vars) no_level st.vars.levels refl in
    left_levels level outer st.vars.levels (then_value (changed set st) go) e
    (value_outer st.vars.levels set.value inside go now
    (λ v. body_outer g expressions calls b.procedure.body path inside now.0 st.vars.levels now.1))

called_levels : {H : Type 0} (g : Setting H) (expressions calls : ℕ) (result : Result Bound TclFault) (path : List ℕ) (st : State H) (level : Level) (outer : List Level) → st.vars.levels ≡ level ∷ outer
    → KeepsLevels (level ∷ outer) (called g (inner g expressions calls) result path st)
called_levels g expressions calls (Ok b) path st level outer e = entered_levels g expressions calls b path st level outer e
called_levels g expressions calls (Err f) path st level outer e = e

pub calls_keep : {H : Type 0} (g : Setting H) (expressions calls : ℕ) (words : List (List ℕ)) (path : List ℕ) (st : State H) (level : Level) (outer : List Level) → st.vars.levels ≡ level ∷ outer
    → KeepsLevels (level ∷ outer) (call_command g (inner g expressions calls) words path st)
calls_keep g expressions calls words path st level outer e = called_levels g expressions calls (bound_of g.procedures words) path st level outer e
