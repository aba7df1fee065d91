-- The body that a `switch` chooses, and what a `catch` makes of a code.
use Rattle.plain_eval.proofs.Vocabulary
use Vocabulary.{Bool, List, None, Ok, Option, Some, [], ap, drop, false, refl, suc, sym, true, zero}
use Vocabulary.{ℕ, ◌+◌, ◌∙◌, ◌∷◌, ◌≡◌, if◌then◌else◌, option_and_then, trees_of, node_view}
use Vocabulary.{nodes_view, Node, out-Node, Node-F, Changed, Level, free, is_next, caught, chosen}
use Vocabulary.{code_number, first_body, is_caught, number_changed, bodies, eval, Act, Ends}
use Vocabulary.{Meaning, Outcome, code_of, then_code, Inner, Setting, Code, Value, Caught, CaughtBy}
use Vocabulary.{ChangeIs, caught_code, EndsAs, Ran, Stand, from, stand, End, Run}
use Rattle.rule_nodes.specs.Choice.{first_body_of, is_next_in}
use Rattle.plain_eval.specs.declared.run.End.TheVariants as end
use Rattle.plain_eval.proofs.InWords.{child_ran, step_of, view_is}
use Rattle.plain_eval.proofs.Steps.{at_stand, code_goes, code_goes_unheard, code_waits, is_code}

next_by : (f : Node-F Node) → is_next (step_of f) ≡ is_next_in f
next_by Node-F.NextBody = refl
next_by other = refl

is_next_view : (n : Node) → is_next (node_view n) ≡ is_next_in (out-Node n)
is_next_view n = ap is_next (view_is {n = n} refl) ∙ next_by (out-Node n)

module _ {H : Type 0} (g : Setting H) (i : Inner H) where
  abbrev pub bodies_at : ℕ → List Node → List (Option (Meaning H))
  bodies_at m ns = bodies g i m (trees_of (nodes_view ns))

  drop_bodies : (k m : ℕ) (ns : List Node) → (j : ℕ) × (drop k (bodies_at m ns) ≡ bodies_at j (drop k ns))
  drop_bodies zero m ns = (m, refl)
  drop_bodies (suc k) m [] = (m, refl)
  drop_bodies (suc k) m (n ∷ ns) = drop_bodies k (m + 1) ns

  -- the body that there is ends so, or else the empty value does
  abbrev pub BodyEnds : Bool → Option Node → Stand H → End → Stand H → Type 0
  BodyEnds w (Some x) s e a = Ran w (eval g i (node_view x)) s e a
  BodyEnds w None s e a = (e ≡ end.Done (Value [])) × (a ≡ s)

  body_by : (b w : Bool) (n : Node) (m : ℕ) (ns : List Node) {s : Stand H} {e : End} {a : Stand H} → is_next (node_view n) ≡ b → BodyEnds w (if b then first_body_of ns else Some n) s e a
      → (BodyEnds w (first_body_of ns) s e a → Ran w (first_body (bodies_at (m + 1) ns)) s e a) → Ran w (first_body (bodies_at m (n ∷ ns))) s e a
  body_by true w n m ns is ends more = rw is (more ends)
  body_by false w n m ns is ends more = rw is (child_ran g i free m (node_view n) ends)

  body_ends : (w : Bool) (ns : List Node) (m : ℕ) {s : Stand H} {e : End} {a : Stand H} → BodyEnds w (first_body_of ns) s e a → Ran w (first_body (bodies_at m ns)) s e a
  body_ends w [] m {s = s} ends = rw (ends.0, ends.1) (record { by = λ path cost acts. at_stand w (Value []) s cost acts })
  body_ends w (n ∷ ns) m ends = body_by (is_next_in (out-Node n)) w n m ns (is_next_view n) ends (λ rest. body_ends w ns (m + 1) rest)

  -- what a `switch` does, by the number of the case that is hit, where one is
  pub chosen_at : (w : Bool) (m : ℕ) (ns : List Node) (hit : Option ℕ) (o : Option Node) {s : Stand H} {e : End} {a : Stand H} → o ≡ option_and_then (λ k. first_body_of (drop k ns)) hit → BodyEnds w o s e a
      → Ran w (chosen (Ok hit) (bodies_at m ns)) s e a
  chosen_at w m ns None o {s = s} is ends = let none = rw is at ends in rw (none.0, none.1) (record { by = λ path cost acts. at_stand w (Value []) s cost acts })
  chosen_at w m ns (Some k) o {s = s} {e = e} {a = a} is ends =
      let d = drop_bodies k m ns in
      let r : Ran w (first_body (bodies_at d.0 (drop k ns))) s e a = body_ends w (drop k ns) d.0 (rw is at ends) in
      record { by = λ path cost acts. rw d.1 (r.by path cost acts) }

-- ---- `catch`
module _ {H : Type 0} where
  change_is : (ch : Changed) (e : End) (s after : Stand H) (c : ℕ) (a : List Act) → ChangeIs ch e after.vars → after ≡ record s { vars = after.vars }
      → EndsAs true (Ends (code_of ch.value) (record (from s c a) { vars = ch.vars })) e after
  change_is ch (end.Done d) s after c a h is = rw is (sym h.0, rw h.1 refl)
  change_is ch (end.Waits call) s after c a h is = absurd h
  change_is ch end.Memory s after c a h is = tt

  caught_is : (level : Option Level) (name : Option (List ℕ)) (b : Bool) (d : Code) (old new : Run) (host : H) (c : ℕ) (a : List Act) → is_caught d ≡ b
      → CaughtBy level name (if b then Some d else None) old new → old.end ≡ end.Done d → EndsAs true (caught level name d (from (stand old host) c a)) new.end (stand new host)
  caught_is level name false d old new host c a is h at = rw (is, h, at) (at_stand true d (stand old host) c a)
  caught_is level None true d old new host c a is h at = rw (is, h.1) (is_code true (Value (code_number d)) new.end (stand old host) c a h.0)
  caught_is level (Some name) true d old new host c a is h at =
      rw is (change_is (number_changed level name d old.vars) new.end (stand old host) (stand new host) c a h.0 (rw h.1 refl))

  -- a body whose code was heard, and one whose value wasn't
  heard_at : (level : Option Level) (name : Option (List ℕ)) (o : Outcome H) (e : End) (old new : Run) (host : H) → EndsAs true o e (stand old host) → old.end ≡ e → CaughtBy level name (caught_code e) old new
      → EndsAs true (then_code o (caught level name)) new.end (stand new host)
  heard_at level name o (end.Done d) old new host m at h =
      code_goes o (caught level name) d (stand old host) true new.end (stand new host) m (λ c a. caught_is level name (is_caught d) d old new host c a refl h at)
  heard_at level name o (end.Waits call) old new host m at h = rw (h, at) (code_waits true true o (caught level name) call (stand old host) m)
  heard_at level name o end.Memory old new host m at h = rw (h, at) tt

  unheard_at : (level : Option Level) (o : Outcome H) (e : End) (old new : Run) (host : H) → EndsAs false o e (stand old host) → old.end ≡ e → CaughtBy level None (caught_code e) old new
      → EndsAs true (then_code o (caught level None)) new.end (stand new host)
  unheard_at level o (end.Done d) old new host m at h =
      code_goes_unheard o (caught level None) d (stand old host) true new.end (stand new host) (λ v st. refl) m (λ c a. caught_is level None (is_caught d) d old new host c a refl h at)
  unheard_at level o (end.Waits call) old new host m at h = rw (h, at) (code_waits false true o (caught level None) call (stand old host) m)
  unheard_at level o end.Memory old new host m at h = rw (h, at) tt

  pub catch_heard : {m : Meaning H} {b : Stand H} (level : Option Level) (name : Option (List ℕ)) (old new : Run) (host : H) → Ran true m b old.end (stand old host) → Caught level name old new
      → Ran true (λ path st. then_code (m path st) (caught level name)) b new.end (stand new host)
  catch_heard level name old new host ran h = record { by = λ path cost acts. heard_at level name _ old.end old new host (ran.by path cost acts) refl h }

  pub catch_unheard : {m : Meaning H} {b : Stand H} (level : Option Level) (old new : Run) (host : H) → Ran false m b old.end (stand old host) → Caught level None old new
      → Ran true (λ path st. then_code (m path st) (caught level None)) b new.end (stand new host)
  catch_unheard level old new host ran h = record { by = λ path cost acts. unheard_at level _ old.end old new host (ran.by path cost acts) refl h }
