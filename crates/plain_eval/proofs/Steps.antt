-- What goes on from an outcome, and what an outcome stops.
use Rattle.plain_eval.proofs.Vocabulary
use Vocabulary.{Bool, Err, List, Ok, Result, [], ap, arith, false, nat_eq, refl, sym, true, ℕ, ◌+◌}
use Vocabulary.{◌<◌, ◌∙◌, ◌≡◌, nat_tests, IfOk, IsErr, IsErrAnd, IsOk, is_err, budget_spent, Gives}
use Vocabulary.{Raise, TclFault, Memory, Changed, Does, Scopes, Act, Ends, Meaning, Outcome, State}
use Vocabulary.{Waits, changed, code_of, ends, heard_code, paid, spend, then_code, then_value}
use Vocabulary.{unvalued, with_value, Code, Raised, Value, Is, Spends, end_of, ended, fault_end}
use Vocabulary.{kept, kept_end, value_in, EndsAs, Gave, GoesOn, Ran, Stand, Went, from, stand, End}
use Vocabulary.{Halted, Run}
use Rattle.px_bytes.specs.declared.fault.Raise.TheVariants as raise
use Rattle.plain_eval.specs.declared.run.End.TheVariants as end

-- an end that is a value
is_value : (e : End) (u : Unit {0}) → Ok u ≡ ended e → e ≡ end.Done (Value (value_in e))
is_value (end.Done (Value v)) u h = refl
is_value other u h = cc

-- what stops stays
stop_same : (x : Bool) (c d : Code) (h : Halted) → Err h ≡ ended (end.Done d) → heard_code x c ≡ heard_code x d → c ≡ d
stop_same true c d h is e = e
stop_same false (Value v) (Value u) h is e = cc
stop_same false (Value v) other h is e = cc
stop_same false other (Value u) h is e = cc
stop_same false other another h is e = e

value_same : (x : Bool) (c : Code) (v : List ℕ) (P : Type 0) → heard_code x c ≡ heard_code x (Value v) → ((u : List ℕ) → c ≡ Value u → heard_code x (Value u) ≡ heard_code x (Value v) → P) → P
value_same x (Value u) v P e k = k u refl e
value_same true other v P e k = cc
value_same false other v P e k = cc

-- a fault that was noted
pub fault_is : (wanted : TclFault) (f : Result TclFault Memory) → IfOk f (λ x. x ≡ wanted) → Is (Raised wanted) (fault_end f)
fault_is wanted (Ok x) h = ap Raised h
fault_is wanted (Err m) h = tt

-- what a call that was kept gave
pub kept_was : {A : Type 0} (r : Result A Raise) (a : A) → Ok a ≡ kept r → r ≡ Ok a
kept_was (Ok b) a is = cc
kept_was (Err x) a is = cc

module _ {H : Type 0} where
  stop_passes : (d : Code) (h : Halted) (go : List ℕ → State H → Outcome H) (st : State H) → Err h ≡ ended (end.Done d) → with_value go d st ≡ Ends d st
  stop_passes (Value v) h go st is = cc
  stop_passes other h go st is = refl

  -- the outcome's own end serves, wanted or not
  pub at_stand : (w : Bool) (d : Code) (s : Stand H) (cost : ℕ) (acts : List Act) → EndsAs w (Ends d (from s cost acts)) (end.Done d) s
  at_stand w d s cost acts = (refl, refl)

  -- a code, or another that is heard alike
  pub is_heard : (w : Bool) (c d : Code) (e : End) (s : Stand H) (cost : ℕ) (acts : List Act) → Is d e → heard_code w c ≡ heard_code w d → EndsAs w (Ends c (from s cost acts)) e s
  is_heard w c d (end.Done x) s cost acts h same = (same ∙ ap (heard_code w) (sym h), refl)
  is_heard w c d (end.Waits call) s cost acts h same = absurd h
  is_heard w c d end.Memory s cost acts h same = tt

  pub is_code : (w : Bool) (c : Code) (e : End) (s : Stand H) (cost : ℕ) (acts : List Act) → Is c e → EndsAs w (Ends c (from s cost acts)) e s
  is_code w c e s cost acts h = is_heard w c c e s cost acts h refl

  -- a value that is heard as that of the end
  pub told_value : (w : Bool) (v : List ℕ) (e : End) (u : Unit {0}) (s : Stand H) (cost : ℕ) (acts : List Act) → Ok u ≡ ended e → heard_code w (Value v) ≡ heard_code w (Value (value_in e)) → EndsAs w (Ends (Value v) (from s cost acts)) e s
  told_value w v (end.Done d) u s cost acts is same =
      let d_is = is_value (end.Done d) u is in
      let d_value : d ≡ Value (value_in (end.Done d)) = cc in
      (same ∙ ap (heard_code w) (sym d_value), refl)
  told_value w v (end.Waits call) u s cost acts is same = cc
  told_value w v end.Memory u s cost acts is same = cc

  any_wanted : (w : Bool) (o : Outcome H) (e : End) (s : Stand H) → EndsAs true o e s → EndsAs w o e s
  any_wanted w o end.Memory s h = tt
  any_wanted w (Ends c st) (end.Done d) s h = (ap (heard_code w) h.0, h.1)
  any_wanted w (Ends c st) (end.Waits call) s h = absurd h
  any_wanted w (Waits p call st) (end.Done d) s h = absurd h
  any_wanted w (Waits p call st) (end.Waits asked) s h = h

  -- a code goes on
  pub code_goes : (o : Outcome H) (go : Code → State H → Outcome H) (d : Code) (mid : Stand H) (w : Bool) (e : End) (last : Stand H)
      → EndsAs true o (end.Done d) mid → ((cost : ℕ) (acts : List Act) → EndsAs w (go d (from mid cost acts)) e last) → EndsAs w (then_code o go) e last
  code_goes (Ends c st) go d mid w e last m h = rw (m.0, m.1) (h st.cost st.acts)
  code_goes (Waits p call st) go d mid w e last m h = absurd m

  -- one that isn't heard, where what follows doesn't look at its value
  unheard : (go : Code → State H → Outcome H) → ((v : List ℕ) (st : State H) → go (Value v) st ≡ go (Value []) st) → (c : Code) (st : State H) → go c st ≡ go (unvalued c) st
  unheard go deaf (Value v) st = deaf v st
  unheard go deaf other st = refl

  pub code_goes_unheard : (o : Outcome H) (go : Code → State H → Outcome H) (d : Code) (mid : Stand H) (w : Bool) (e : End) (last : Stand H) → ((v : List ℕ) (st : State H) → go (Value v) st ≡ go (Value []) st)
      → EndsAs false o (end.Done d) mid → ((cost : ℕ) (acts : List Act) → EndsAs w (go d (from mid cost acts)) e last) → EndsAs w (then_code o go) e last
  code_goes_unheard (Ends c st) go d mid w e last deaf m h =
      rw (unheard go deaf c st, m.0, sym (unheard go deaf d st), m.1) (h st.cost st.acts)
  code_goes_unheard (Waits p call st) go d mid w e last deaf m h = absurd m

  -- a wait stays
  pub code_waits : (x w : Bool) (o : Outcome H) (go : Code → State H → Outcome H) (call : List (List ℕ)) (s : Stand H) → EndsAs x o (end.Waits call) s → EndsAs w (then_code o go) (end.Waits call) s
  code_waits x w (Ends c st) go call s m = absurd m
  code_waits x w (Waits p asked st) go call s m = m

  -- a value goes on
  pub value_goes : (x : Bool) (o : Outcome H) (go : List ℕ → State H → Outcome H) (before : End) (u : Unit {0}) (mid : Stand H) (w : Bool) (e : End) (last : Stand H)
      → Ok u ≡ ended before → EndsAs x o before mid
      → ((v : List ℕ) (cost : ℕ) (acts : List Act) → heard_code x (Value v) ≡ heard_code x (Value (value_in before)) → EndsAs w (go v (from mid cost acts)) e last)
      → EndsAs w (then_value o go) e last
  value_goes x (Ends c st) go (end.Done d) u mid w e last is m h =
      let d_is = is_value (end.Done d) u is in
      let d_value : d ≡ Value (value_in (end.Done d)) = cc in
      value_same x c (value_in (end.Done d)) _ (m.0 ∙ ap (heard_code x) d_value) (λ v c_is same. rw (c_is, m.1) (h v st.cost st.acts same))
  value_goes x (Waits p call st) go (end.Done d) u mid w e last is m h = absurd m
  value_goes x o go (end.Waits call) u mid w e last is m h = cc
  value_goes x o go end.Memory u mid w e last is m h = cc

  -- the same, where it was heard, and where it wasn't
  pub heard_goes : (o : Outcome H) (go : List ℕ → State H → Outcome H) (e : End) (u : Unit {0}) (mid : Stand H) (w : Bool) (end : End) (last : Stand H)
      → Ok u ≡ ended e → EndsAs true o e mid → ((cost : ℕ) (acts : List Act) → EndsAs w (go (value_in e) (from mid cost acts)) end last) → EndsAs w (then_value o go) end last
  heard_goes o go e u mid w end last is m h =
      value_goes true o go e u mid w end last is m (λ v cost acts same. let is_same : v ≡ value_in e = cc in rw is_same (h cost acts))

  -- what isn't one stops
  pub value_stops : (x w : Bool) (o : Outcome H) (go : List ℕ → State H → Outcome H) (e : End) (h : Halted) (mid : Stand H) → Err h ≡ ended e → EndsAs x o e mid → EndsAs w (then_value o go) e mid
  value_stops x w (Ends c st) go (end.Done d) h mid is m =
      rw (stop_same x c d h is m.0, stop_passes d h go st is) (refl, m.1)
  value_stops x w (Waits p call st) go (end.Done d) h mid is m = absurd m
  value_stops x w o go (end.Waits asked) h mid is m = code_waits x w o (with_value go) asked mid m
  value_stops x w o go end.Memory h mid is m = tt

  -- the same of meanings
  pub any_ran : {m : Meaning H} {b : Stand H} {e : End} {a : Stand H} (w : Bool) → Ran true m b e a → Ran w m b e a
  any_ran {m = m} {b = b} {e = e} {a = a} w r = record { by = λ path cost acts. any_wanted w (m path (from b cost acts)) e a (r.by path cost acts) }

  pub goes_self : (w : Bool) (m : Meaning H) (b : Stand H) → GoesOn w m b m b
  goes_self w m b = record { closes = λ e last r. r }

  -- whatever the rest comes to, the whole comes to at any path and cost
  pub goes_by : {w : Bool} {m n : Meaning H} {b mid : Stand H} → ((e : End) (last : Stand H) → Ran w n mid e last → (path : List ℕ) (cost : ℕ) (acts : List Act) → EndsAs w (m path (from b cost acts)) e last) → GoesOn w m b n mid
  goes_by h = record { closes = λ e last r. record { by = h e last r } }

  pub goes_then : {w : Bool} {m n o : Meaning H} {a b c : Stand H} → GoesOn w m a n b → GoesOn w n b o c → GoesOn w m a o c
  goes_then f g = record { closes = λ e last r. f.closes e last (g.closes e last r) }

  pub went_then : {A : Type 0} {w : Bool} {m n : Meaning H} {b mid : Stand H} (r : Result A Halted) (go : A → Meaning H) (e : End) (out : Stand H) → GoesOn w m b n mid → Went w n mid r e go out → Went w m b r e go out
  went_then (Ok x) go e out f g = goes_then f g
  went_then (Err h) go e out f g = f.closes e out g

  -- what was heard has a value, with which it goes on, or it is the end
  pub valued : (w : Bool) {m : Meaning H} {b mid : Stand H} (go : List ℕ → List ℕ → State H → Outcome H) (e : End) (r : Result (Unit {0}) Halted) → r ≡ ended e → Ran true m b e mid
      → Went w (λ path st. then_value (m path st) (go path)) b r e (λ u path st. go path (value_in e) st) mid
  valued w {m = m} {b = b} {mid = mid} go e (Ok u) value ran = goes_by (λ end last r path cost acts. heard_goes (m path (from b cost acts)) (go path) e u mid w end last value (ran.by path cost acts) (λ c a. r.by path c a))
  valued w {m = m} {b = b} {mid = mid} go e (Err h) none ran = record { by = λ path cost acts. value_stops true w (m path (from b cost acts)) (go path) e h mid none (ran.by path cost acts) }

  -- whatever it costs before
  pub paid_ran : {w : Bool} {m : Meaning H} {b : Stand H} {e : End} {a : Stand H} (k : ℕ) → Ran w m b e a → Ran w (λ path st. m path (paid k st)) b e a
  paid_ran k r = record { by = λ path cost acts. r.by path (cost + k) acts }

  pub paid_gave : {A : Type 0} {m : (A → Meaning H) → Meaning H} {b mid : Stand H} {e : End} (k : ℕ) (r : Result A Halted) → Gave m b r e mid → Gave (λ go path st. m go path (paid k st)) b r e mid
  paid_gave k (Ok a) gave = record { went = λ w go. goes_by (λ e last q path cost acts. ((gave.went w go).closes e last q).by path (cost + k) acts) }
  paid_gave k (Err h) gave = record { went = λ w go. paid_ran k (gave.went w go) }

  pub code_ran : {w : Bool} {s : Stand H} (d : Code) (e : End) → Is d e → Ran w (λ path st. Ends d st) s e s
  code_ran {w = w} {s = s} d e is = record { by = λ path cost acts. is_code w d e s cost acts is }

  pub ends_ran : {w : Bool} {s : Stand H} (d : Code) → Ran w (λ path st. Ends d st) s (end.Done d) s
  ends_ran d = code_ran d (end.Done d) refl

  pub gives_ran : {w : Bool} {s : Stand H} (r : Result (List ℕ) Raise) (wanted : Result (List ℕ) TclFault) → Gives r wanted → Ran w (λ path st. ends wanted st) s (end_of r) s
  gives_ran (Ok v) wanted told = rw told (ends_ran (Value v))
  gives_ran (Err (raise.Fault f)) wanted told = rw told (ends_ran (Raised f))
  gives_ran (Err raise.Memory) wanted told = record { by = λ path cost acts. tt }

  -- a unit of budget is taken, or there is none
  pub spend_gave : (old new : Run) (host : H) (r : Result (Unit {0}) Halted) → Spends old r new → Gave (λ go path st. spend st (go tt path)) (stand old host) r new.end (stand new host)
  spend_gave old new host (Ok u) s =
      let some : 0 < old.budget = s.0 in
      let t : nat_eq old.budget 0 ≡ false = grind (arith, nat_tests) in
      rw s.1 (record { went = λ w go. goes_by (λ e last r path cost acts. rw t (r.by path (cost + 1) acts)) })
  spend_gave old new host (Err h) s =
      let none : old.budget ≡ 0 = s.0 in
      let t : nat_eq old.budget 0 ≡ true = grind (arith, nat_tests) in
      rw s.2 (record { went = λ w go. record { by = λ path cost acts. rw t (is_code w (Raised budget_spent) new.end (stand old host) cost acts s.1) } })

  -- the stand with these variables
  abbrev pub with_vars : Scopes → Stand H → Stand H
  with_vars vars s = record s { vars = vars }

  -- a change of variables whose value isn't looked at
  abbrev pub changing : (Scopes → Changed) → Meaning H → Meaning H
  changing change go path st = then_value (changed (change st.vars) st) (λ v t. go path t)

  done_by : (r : Result (List ℕ) TclFault) (st : State H) (go : State H → Outcome H) → IsOk r → then_value (Ends (code_of r) st) (λ v t. go t) ≡ go st
  done_by (Ok v) st go ok = refl
  done_by (Err f) st go ok = cc

  pub change_goes : {w : Bool} {s : Stand H} {new : Scopes} (change : Scopes → Changed) (r : Result (Unit {0}) Raise) (u : Unit {0}) (go : Meaning H) → Ok u ≡ kept r → Does (change s.vars) r new → GoesOn w (changing change go) s go (with_vars new s)
  change_goes {s = s} change (Ok x) u go is did = goes_by (λ e last r path cost acts.
      rw (done_by (change s.vars).value (record (from s cost acts) { vars = (change s.vars).vars }) (go path) did.0, ← did.1) (r.by path cost acts))
  change_goes change (Err x) u go is did = cc

  pub change_fails : {w : Bool} {s : Stand H} {new : Scopes} {h : Halted} (e : End) (change : Scopes → Changed) (r : Result (Unit {0}) Raise) (go : Meaning H) → Err h ≡ kept r → Does (change s.vars) r new
      → Ran w (changing change go) s (kept_end r e) (with_vars new s)
  change_fails e change (Ok u) go none did = cc
  change_fails {w = w} {s = s} e change (Err (raise.Fault f)) go none did =
      record { by = λ path cost acts. rw (did.0, did.1) (at_stand w (Raised f) (with_vars (change s.vars).vars s) cost acts) }
  change_fails e change (Err raise.Memory) go none did = record { by = λ path cost acts. tt }

  -- the fault of a call that was kept is the end
  pub kept_fails : {A B : Type 0} (w : Bool) (m : Result B TclFault → Meaning H) (r : Result A Raise) (e : End) {h : Halted} {wanted : Result B TclFault} {s : Stand H}
      → ((f : TclFault) (path : List ℕ) (st : State H) → m (Err f) path st ≡ Ends (Raised f) st) → Err h ≡ kept r → ((f : TclFault) → r ≡ Err (raise.Fault f) → wanted ≡ Err f) → Ran w (m wanted) s (kept_end r e) s
  kept_fails w m (Ok a) e fails none told = cc
  kept_fails w m (Err (raise.Fault f)) e {s = s} fails none told =
      rw (told f refl) (record { by = λ path cost acts. rw (fails f path (from s cost acts)) (at_stand w (Raised f) s cost acts) })
  kept_fails w m (Err raise.Memory) e fails none told = record { by = λ path cost acts. tt }

-- what a test on an error says
pub ok_is : {E : Type 0} (r : Result (Unit {0}) E) → is_err r ≡ false → r ≡ Ok tt
ok_is (Ok u) is = refl
ok_is (Err x) is = cc

pub halts_is : (r : Result (Unit {0}) Halted) → is_err r ≡ true → r ≡ Err (record {})
halts_is (Ok u) is = cc
halts_is (Err x) is = refl

-- what a `?` hands on
pub halted_is : {A : Type 0} (r : Result A Halted) (h : Halted) → IsErr r × IsErrAnd r (λ x. x ≡ h) → r ≡ Err h
halted_is (Ok u) h is = absurd is.1
halted_is (Err x) h is = ap Err is.1
