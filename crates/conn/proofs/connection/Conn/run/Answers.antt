use Rattle.std.proofs.Common.{◌≡◌, ◌+◌, ◌-◌, ◌∙◌, true, true≢false, inl, inr, sym, ap, subst, ℕ, List, [], ◌∷◌, ◌++◌, length, arith}
use Rattle.core_events.specs.declared.note.Note.{Note}
use Rattle.core_events.specs.declared.note.Note.TheVariants.{Finish}
use Rattle.core_events.specs.declared.note.Cause.TheVariants.{Memory}
use Rattle.conn.specs.Acted.{Acted}
use Rattle.conn.specs.Runs.{DropsQueued, IsWhole, Rested}
use Rattle.conn.specs.RunsItems.{asks}
use Rattle.conn.specs.declared.connection.Conn.{Conn}
use Rattle.conn.specs.declared.turn.Act.TheVariants as done
use Rattle.conn.specs.declared.turn.ConnTurn.{ConnTurn}
use Rattle.conn.specs.declared.turn.ConnTurn.TheVariants as turn
use Rattle.conn.proofs.Advancing.{rests_quiet}
use Rattle.conn.proofs.Leading.{is_answered_in, progress, rank_few, rank_of}
use Rattle.conn.proofs.Running.{drops_told, RunsBy, RunsOn, at_first, counts_on, one_more, runs_more, runs_asks, runs_rests, runs_out, rested_few, rests_whole, some_counted, whole_at_last}
use Rattle.conn.proofs.connection.Conn.run.Goals as goal

pub loop-moved-init : goal.loop-moved-init
loop-moved-init g c =
    let given = c.len-given.ensures in
    let room = c.requires in
    let low = rank_few c.args.self.now.stage (is_answered_in c.args.self.now.host) in
    (at_first c.args.setup.now c.args.number c.args.self.now c.args.notes.now.items, omega (arith, given), omega (arith, given, room), omega (arith, given, low), omega arith, omega arith, omega (arith, given))

pub loop-moved-preserved : goal.loop-moved-preserved
loop-moved-preserved g c =
    let k = c.loop-moved.invariant in
    let ticks = c.advance.new.steps - c.loop-moved.steps in
    let acted : Acted c.args.setup.now c.args.number c.loop-moved.self c.advance.new.self c.loop-moved.notes.items c.advance.new.notes.items done.Goes ticks = rw c.in-Ok-Goes.field-0-is at c.in-Ok-Goes.ensures.ok in
    let grows = c.advance.ensures.grows in
    let room = c.advance.ensures.room in
    let within = k.1 in
    let wide = k.2 in
    let low = k.3 in
    let few = c.advance.ensures.few in
    let sums = c.in-Ok-Goes.ensures.counted in
    let so_far = k.4 in
    let counts = counts_on c.loop-moved.self c.loop-moved.spent c.advance.new.spent c.loop-moved.steps c.advance.new.steps c.in-Ok-Goes.ensures.inside c.advance.ensures.outside sums in
    let moves = progress c.args.setup.now c.args.number c.loop-moved.self c.advance.new.self c.loop-moved.notes.items c.advance.new.notes.items ticks acted counts.0.inside grows in
    let R : ℕ → Type 0 = λ n. RunsOn c.args.setup.now c.args.number c.args.self.now c.advance.new.self c.args.notes.now.items c.advance.new.notes.items n in
    let more = one_more c.args.setup.now c.args.number c.args.self.now c.loop-moved.self c.advance.new.self c.args.notes.now.items c.loop-moved.notes.items c.advance.new.notes.items c.loop-moved.spent ticks k.0 acted counts.0 in
    let spent = counts.1 in
    (subst R (sym spent) more, omega (arith, grows, within), omega (arith, room, wide), omega (arith, low, moves, spent), omega (arith, so_far, sums), omega (arith, so_far, sums, few, k.5), omega (arith, room, c.advance.ensures.spare, k.1))

pub returns-then-len-given-ge-MOST_NOTES-clause-ran : goal.returns-then-len-given-ge-MOST_NOTES-clause-ran
returns-then-len-given-ge-MOST_NOTES-clause-ran g c =
    let k = c.loop-moved.invariant in
    let R : ℕ → Type 0 = λ n. RunsBy c.args.setup.now c.args.number c.args.self.now c.loop-moved.self c.args.notes.now.items c.loop-moved.notes.items turn.More n in
    let same : c.loop-moved.spent ≡ c.loop-moved.steps - c.args.steps.now = omega (arith, k.4) in
    subst R same (runs_more c.args.setup.now c.args.number c.args.self.now c.loop-moved.self c.args.notes.now.items c.loop-moved.notes.items c.loop-moved.spent k.0 (inr (omega (arith, c.if-len-given-ge-MOST_NOTES.true, c.len.ensures, c.len-given.ensures, k.1))))

pub returns-in-Ok-Asks-clause-ran : goal.returns-in-Ok-Asks-clause-ran
returns-in-Ok-Asks-clause-ran g c =
    let k = c.loop-moved.invariant in
    let ticks = c.advance.new.steps - c.loop-moved.steps in
    let acted : Acted c.args.setup.now c.args.number c.loop-moved.self c.advance.new.self c.loop-moved.notes.items c.advance.new.notes.items (done.Asks c.in-Ok-Asks.call) ticks = rw c.in-Ok-Asks.field-0-is at c.in-Ok-Asks.ensures.ok in
    let counts = counts_on c.loop-moved.self c.loop-moved.spent c.advance.new.spent c.loop-moved.steps c.advance.new.steps c.in-Ok-Asks.ensures.inside c.advance.ensures.outside c.in-Ok-Asks.ensures.counted in
    let R : ℕ → Type 0 = λ n. RunsBy c.args.setup.now c.args.number c.args.self.now c.advance.new.self c.args.notes.now.items c.advance.new.notes.items (turn.Asks c.in-Ok-Asks.call) n in
    let spent = counts.1 in
    let same : c.loop-moved.spent + ticks ≡ c.advance.new.steps - c.args.steps.now = omega (arith, k.4, spent, c.in-Ok-Asks.ensures.counted) in
    subst R same (runs_asks c.args.setup.now c.args.number c.args.self.now c.loop-moved.self c.advance.new.self c.args.notes.now.items c.loop-moved.notes.items c.advance.new.notes.items c.in-Ok-Asks.call c.loop-moved.spent ticks k.0 acted counts.0)

pub returns-in-Ok-Rests-clause-ran : goal.returns-in-Ok-Rests-clause-ran
returns-in-Ok-Rests-clause-ran g c =
    let k = c.loop-moved.invariant in
    let ticks = c.advance.new.steps - c.loop-moved.steps in
    let acted : Acted c.args.setup.now c.args.number c.loop-moved.self c.advance.new.self c.loop-moved.notes.items c.advance.new.notes.items done.Rests ticks = rw c.in-Ok-Rests.field-0-is at c.in-Ok-Rests.ensures.ok in
    let counts = counts_on c.loop-moved.self c.loop-moved.spent c.advance.new.spent c.loop-moved.steps c.advance.new.steps c.in-Ok-Rests.ensures.inside c.advance.ensures.outside c.in-Ok-Rests.ensures.counted in
    let R : ℕ → Type 0 = λ n. RunsBy c.args.setup.now c.args.number c.args.self.now c.comes_to_rest.new.self c.args.notes.now.items c.comes_to_rest.new.notes.items c.comes_to_rest.result n in
    let spent = counts.1 in
    let same : c.loop-moved.spent + ticks ≡ c.advance.new.steps - c.args.steps.now = omega (arith, k.4, spent, c.in-Ok-Rests.ensures.counted) in
    subst R same (runs_rests c.args.setup.now c.args.number c.args.self.now c.loop-moved.self c.advance.new.self c.comes_to_rest.new.self c.args.notes.now.items c.loop-moved.notes.items c.advance.new.notes.items c.comes_to_rest.new.notes.items c.comes_to_rest.result c.loop-moved.spent ticks k.0 acted counts.0 c.comes_to_rest.ensures.rested)

pub returns-in-Err-clause-ran : goal.returns-in-Err-clause-ran
returns-in-Err-clause-ran g c =
    let same : c.advance.new.notes.items ≡ c.loop-moved.notes.items = ap (λ n. n.items) c.in-Err.ensures.err in
    let drops : DropsQueued c.args.number c.queued-pending.result c.advance.new.self c.fail.new.self (c.loop-moved.notes.items ++ Finish c.args.number Memory ∷ []) c.fail.new.notes.items c.fail.result =
    subst (λ x. DropsQueued c.args.number c.queued-pending.result c.advance.new.self c.fail.new.self (x ++ Finish c.args.number Memory ∷ []) c.fail.new.notes.items c.fail.result) same c.fail.ensures in
    let steps = c.advance.new.steps - c.args.steps.now in
    let P : ConnTurn → Type 0 = λ t. RunsBy c.args.setup.now c.args.number c.args.self.now c.fail.new.self c.args.notes.now.items c.fail.new.notes.items t steps in
    subst P (sym drops.over)
    (runs_out c.args.setup.now c.args.number c.queued-pending.result c.args.self.now c.loop-moved.self c.advance.new.self c.fail.new.self c.args.notes.now.items c.loop-moved.notes.items c.fail.new.notes.items c.fail.result c.loop-moved.spent steps c.loop-moved.invariant.0 c.queued-pending.ensures c.in-Err.ensures.kept drops)

pub returns-clause-ran : goal.returns-clause-ran
returns-clause-ran g c =
    let k = c.loop-moved.invariant in
    let R : ℕ → Type 0 = λ n. RunsBy c.args.setup.now c.args.number c.args.self.now c.loop-moved.self c.args.notes.now.items c.loop-moved.notes.items turn.More n in
    let same : c.loop-moved.spent ≡ c.loop-moved.steps - c.args.steps.now = omega (arith, k.4) in
    subst R same (runs_more c.args.setup.now c.args.number c.args.self.now c.loop-moved.self c.args.notes.now.items c.loop-moved.notes.items c.loop-moved.spent k.0 (some_counted c.loop-moved._moved (rank_of c.loop-moved.self) c.len-given.result c.loop-moved.spent (length c.loop-moved.notes.items) (length c.args.notes.now.items) c.len-given.ensures k.3 (omega arith)))

pub returns-clause-slice : goal.returns-clause-slice
returns-clause-slice g c =
    let k = c.loop-moved.invariant in
    let given = c.len-given.ensures in
    let same : c.loop-moved.spent ≡ c.loop-moved.steps - c.args.steps.now = omega (arith, k.4) in
    let whole = whole_at_last c.loop-moved._moved (rank_of c.loop-moved.self) c.len-given.result c.loop-moved.spent (length c.loop-moved.notes.items) k.3 (omega arith) in
    let N : ℕ → Type 0 = λ x. IsWhole turn.More c.loop-moved.spent (length c.loop-moved.notes.items - x) in
    let S : ℕ → Type 0 = λ x. IsWhole turn.More x (length c.loop-moved.notes.items - length c.args.notes.now.items) in
    subst S same (subst N given whole)

pub returns-in-Ok-Rests-clause-slice : goal.returns-in-Ok-Rests-clause-slice
returns-in-Ok-Rests-clause-slice g c = rests_whole c.args.number c.advance.new.self c.comes_to_rest.new.self c.advance.new.notes.items c.comes_to_rest.new.notes.items c.comes_to_rest.result _ _ c.comes_to_rest.ensures.rested

pub returns-in-Err-clause-slice : goal.returns-in-Err-clause-slice
returns-in-Err-clause-slice g c = rw c.fail.ensures.over tt

pub returns-then-spent-gt-MOST_STEPS-clause-ran : goal.returns-then-spent-gt-MOST_STEPS-clause-ran
returns-then-spent-gt-MOST_STEPS-clause-ran g c =
    let k = c.loop-moved.invariant in
    let R : ℕ → Type 0 = λ n. RunsBy c.args.setup.now c.args.number c.args.self.now c.loop-moved.self c.args.notes.now.items c.loop-moved.notes.items turn.More n in
    let same : c.loop-moved.spent ≡ c.loop-moved.steps - c.args.steps.now = omega (arith, k.4) in
    subst R same (runs_more c.args.setup.now c.args.number c.args.self.now c.loop-moved.self c.args.notes.now.items c.loop-moved.notes.items c.loop-moved.spent k.0 (inl (omega (arith, c.if-spent-gt-MOST_STEPS.true))))

pub returns-in-Ok-Asks-clause-bounded : goal.returns-in-Ok-Asks-clause-bounded
returns-in-Ok-Asks-clause-bounded g c =
    omega (arith, c.loop-moved.invariant.4, c.if-spent-gt-MOST_STEPS.false, c.advance.ensures.few)

pub returns-in-Ok-Rests-clause-bounded : goal.returns-in-Ok-Rests-clause-bounded
returns-in-Ok-Rests-clause-bounded g c =
    omega (arith, c.loop-moved.invariant.4, c.if-spent-gt-MOST_STEPS.false, c.advance.ensures.few)

pub returns-in-Err-clause-bounded : goal.returns-in-Err-clause-bounded
returns-in-Err-clause-bounded g c =
    omega (arith, c.loop-moved.invariant.4, c.if-spent-gt-MOST_STEPS.false, c.advance.ensures.few)

pub returns-in-OutOfMemory-clause-dropped : goal.returns-in-OutOfMemory-clause-dropped
returns-in-OutOfMemory-clause-dropped g c =
    drops_told c.args.number c.queued-dropped.result c.args.self.now c.drop_queued.new.self c.args.notes.now.items c.drop_queued.new.notes.items c.drop_queued.result c.drop_queued.ensures

pub returns-in-Err-clause-dropped : goal.returns-in-Err-clause-dropped
returns-in-Err-clause-dropped g c =
    drops_told c.args.number c.queued-pending.result c.advance.new.self c.fail.new.self (c.advance.new.notes.items ++ Finish c.args.number Memory ∷ []) c.fail.new.notes.items c.fail.result c.fail.ensures

pub comes_to_rest-requires : goal.comes_to_rest-requires
comes_to_rest-requires g c =
    let acted : Acted c.args.setup.now c.args.number c.loop-moved.self c.advance.new.self c.loop-moved.notes.items c.advance.new.notes.items done.Rests (c.advance.new.steps - c.loop-moved.steps) = rw c.in-Ok-Rests.field-0-is at c.in-Ok-Rests.ensures.ok in
    let same = ap length (rests_quiet c.args.setup.now c.args.number c.loop-moved.self c.advance.new.self c.loop-moved.notes.items c.advance.new.notes.items (c.advance.new.steps - c.loop-moved.steps) acted) in
    let k = c.loop-moved.invariant in
    omega (arith, same, c.advance.ensures.room, k.2, c.len.ensures, c.if-len-given-ge-MOST_NOTES.false)

pub returns-in-Ok-Rests-clause-few_notes : goal.returns-in-Ok-Rests-clause-few_notes
returns-in-Ok-Rests-clause-few_notes g c =
    let acted : Acted c.args.setup.now c.args.number c.loop-moved.self c.advance.new.self c.loop-moved.notes.items c.advance.new.notes.items done.Rests (c.advance.new.steps - c.loop-moved.steps) = rw c.in-Ok-Rests.field-0-is at c.in-Ok-Rests.ensures.ok in
    let same = ap length (rests_quiet c.args.setup.now c.args.number c.loop-moved.self c.advance.new.self c.loop-moved.notes.items c.advance.new.notes.items (c.advance.new.steps - c.loop-moved.steps) acted) in
    let few = rested_few c.args.number c.advance.new.self c.comes_to_rest.new.self c.advance.new.notes.items c.comes_to_rest.new.notes.items c.comes_to_rest.result c.comes_to_rest.ensures.rested in
    omega (arith, same, few, c.len-given.ensures, c.len.ensures, c.if-len-given-ge-MOST_NOTES.false)

-- ---- where it stops at a call there is room for one note more

-- at a rest it stops at none
rested_asks : (c : ℕ) (old new : Conn) (before after : List Note) (t : ConnTurn) → Rested c old new before after t → asks t ≡ true → ⊥
rested_asks c old new before after turn.More r e = r
rested_asks c old new before after (turn.Asks call) r e = r
rested_asks c old new before after turn.NotYet r e = true≢false (sym e)
rested_asks c old new before after turn.Over r e = true≢false (sym e)

over_asks : (t : ConnTurn) → t ≡ turn.Over → asks t ≡ true → ⊥
over_asks t is e = true≢false (sym e ∙ ap asks is)

pub returns-in-OutOfMemory-clause-few_asked : goal.returns-in-OutOfMemory-clause-few_asked
returns-in-OutOfMemory-clause-few_asked g c e = absurd (over_asks c.drop_queued.result c.drop_queued.ensures.over e)

pub returns-in-Err-clause-few_asked : goal.returns-in-Err-clause-few_asked
returns-in-Err-clause-few_asked g c e = absurd (over_asks c.fail.result c.fail.ensures.over e)

pub returns-in-Ok-Rests-clause-few_asked : goal.returns-in-Ok-Rests-clause-few_asked
returns-in-Ok-Rests-clause-few_asked g c e =
    absurd (rested_asks c.args.number c.advance.new.self c.comes_to_rest.new.self c.advance.new.notes.items c.comes_to_rest.new.notes.items c.comes_to_rest.result c.comes_to_rest.ensures.rested e)

pub returns-in-Ok-Asks-clause-few_asked : goal.returns-in-Ok-Asks-clause-few_asked
returns-in-Ok-Asks-clause-few_asked g c e =
    let room = c.loop-moved.invariant.2 in
    (omega (arith, room, c.advance.ensures.room, c.advance.ensures.spare, c.len-given.ensures, c.len.ensures, c.if-len-given-ge-MOST_NOTES.false), omega (arith, room, c.advance.ensures.room, c.advance.ensures.spare, c.len-given.ensures, c.len.ensures, c.if-len-given-ge-MOST_NOTES.false))
