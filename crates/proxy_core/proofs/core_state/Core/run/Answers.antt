use Rattle.std.proofs.Common.{◌≡◌, ◌∙◌, ℕ, ◌+◌, ◌<◌, ◌≤◌, [], ◌++◌, ap, append-nil, append_assoc, arith, Bool, false, get_or, if◌then◌else◌, length, refl, remove, set, subst, sym, true}
use Rattle.conn.specs.RunsItems.{asks}
use Rattle.number_table.proofs.Ring.{without_missing}
use Rattle.proxy_core.specs.Calls.{queue_behind, sleep_note, sleepers_behind}
use Rattle.proxy_core.specs.Ready.{ring_behind, without}
use Rattle.proxy_core.specs.Serving.{IsSetup}
use Rattle.proxy_core.proofs.FrontRuns.{behind_over, front_runs, given_is, idle_runs}
use Rattle.proxy_core.proofs.Places.{number_at, number_in, read_again, remove_set}
use Rattle.proxy_core.proofs.Tables.{gone, kept, place_there}
use Rattle.proxy_core.proofs.core_state.Core.run.Goals as goal

pub invariant_of-self-then-put_behind-clause-numbered : goal.invariant_of-self-then-put_behind-clause-numbered
invariant_of-self-then-put_behind-clause-numbered g c =
    let s = c.args.self.now in
    let ls = s.live.items in
    let at = c.in-Some.at in
    let l = c.index_mut.result.now in
    let m = c.run-turn.new.self in
    let i = c.pop_ready.ensures.items in
    let h = rw i at c.index_mut.ensures.value in
    let items = c.put_behind.ensures.items ∙ ap (λ k. set k at m) i in
    let ns = c.put_behind.ensures.numbers ∙ c.pop_ready.ensures.numbers in
    let k = gone s.last at s.live.numbers _ ls _ l m s.numbered s.live_known h (c.remove.ensures.numbers ∙ ap (λ k. remove k at) ns) (c.remove.ensures.items ∙ ap (λ k. remove k at) items) in
    k.numbered

pub invariant_of-self-then-put_behind-clause-live_known : goal.invariant_of-self-then-put_behind-clause-live_known
invariant_of-self-then-put_behind-clause-live_known g c =
    let s = c.args.self.now in
    let ls = s.live.items in
    let at = c.in-Some.at in
    let l = c.index_mut.result.now in
    let m = c.run-turn.new.self in
    let i = c.pop_ready.ensures.items in
    let h = rw i at c.index_mut.ensures.value in
    let items = c.put_behind.ensures.items ∙ ap (λ k. set k at m) i in
    let ns = c.put_behind.ensures.numbers ∙ c.pop_ready.ensures.numbers in
    let k = gone s.last at s.live.numbers _ ls _ l m s.numbered s.live_known h (c.remove.ensures.numbers ∙ ap (λ k. remove k at) ns) (c.remove.ensures.items ∙ ap (λ k. remove k at) items) in
    k.known

pub invariant_of-self-then-put_behind-clause-live_limit : goal.invariant_of-self-then-put_behind-clause-live_limit
invariant_of-self-then-put_behind-clause-live_limit g c =
    let s = c.args.self.now in
    let ls = s.live.items in
    let at = c.in-Some.at in
    let l = c.index_mut.result.now in
    let m = c.run-turn.new.self in
    let i = c.pop_ready.ensures.items in
    let h = rw i at c.index_mut.ensures.value in
    let items = c.put_behind.ensures.items ∙ ap (λ k. set k at m) i in
    let ns = c.put_behind.ensures.numbers ∙ c.pop_ready.ensures.numbers in
    let k = gone s.last at s.live.numbers _ ls _ l m s.numbered s.live_known h (c.remove.ensures.numbers ∙ ap (λ k. remove k at) ns) (c.remove.ensures.items ∙ ap (λ k. remove k at) items) in
    omega (arith, k.fewer, s.live_limit)

pub invariant_of-self-else-put_behind-clause-numbered : goal.invariant_of-self-else-put_behind-clause-numbered
invariant_of-self-else-put_behind-clause-numbered g c =
    let s = c.args.self.now in
    let ls = s.live.items in
    let at = c.in-Some.at in
    let l = c.index_mut.result.now in
    let m = c.run-turn.new.self in
    let i = c.pop_ready.ensures.items in
    let h = rw i at c.index_mut.ensures.value in
    let items = c.put_behind.ensures.items ∙ ap (λ k. set k at m) i in
    let ns = c.put_behind.ensures.numbers ∙ c.pop_ready.ensures.numbers in
    let k = kept s.last at s.live.numbers _ ls _ l m s.numbered s.live_known h c.run-turn.ensures.same.number ns items in
    k.numbered

pub invariant_of-self-else-put_behind-clause-live_known : goal.invariant_of-self-else-put_behind-clause-live_known
invariant_of-self-else-put_behind-clause-live_known g c =
    let s = c.args.self.now in
    let ls = s.live.items in
    let at = c.in-Some.at in
    let l = c.index_mut.result.now in
    let m = c.run-turn.new.self in
    let i = c.pop_ready.ensures.items in
    let h = rw i at c.index_mut.ensures.value in
    let items = c.put_behind.ensures.items ∙ ap (λ k. set k at m) i in
    let ns = c.put_behind.ensures.numbers ∙ c.pop_ready.ensures.numbers in
    let k = kept s.last at s.live.numbers _ ls _ l m s.numbered s.live_known h c.run-turn.ensures.same.number ns items in
    k.known

pub invariant_of-self-else-put_behind-clause-live_limit : goal.invariant_of-self-else-put_behind-clause-live_limit
invariant_of-self-else-put_behind-clause-live_limit g c =
    let s = c.args.self.now in
    let ls = s.live.items in
    let at = c.in-Some.at in
    let l = c.index_mut.result.now in
    let m = c.run-turn.new.self in
    let i = c.pop_ready.ensures.items in
    let h = rw i at c.index_mut.ensures.value in
    let items = c.put_behind.ensures.items ∙ ap (λ k. set k at m) i in
    let ns = c.put_behind.ensures.numbers ∙ c.pop_ready.ensures.numbers in
    let k = kept s.last at s.live.numbers _ ls _ l m s.numbered s.live_known h c.run-turn.ensures.same.number ns items in
    omega (arith, k.fewer, s.live_limit)

pub returns-then-put_behind-clause-runs : goal.returns-then-put_behind-clause-runs
returns-then-put_behind-clause-runs g c =
    let s = c.args.self.now in
    let ls = s.live.items in
    let at = c.in-Some.at in
    let l = c.index_mut.result.now in
    let m = c.run-turn.new.self in
    let i = c.pop_ready.ensures.items in
    let h = rw i at c.index_mut.ensures.value in
    let items = c.put_behind.ensures.items ∙ ap (λ k. set k at m) i in
    let ns = c.put_behind.ensures.numbers ∙ c.pop_ready.ensures.numbers in
    let p = c.in-Some.ensures.pops in
    let number = p.number in
    let rest = c.pop_ready.new.self.ring in
    let place = place_there number at s.live.numbers ls s.numbered p.place in
    let n = number_at number at ls l place h in
    let k = rw i at c.index.ensures in
    let same = read_again ls at c.index.result.now l k h in
    let P : ℕ → Type 0 = λ v. IsSetup s.config s.statics.statics s.places v c.setup_at-setup.result in
    let told = ap (λ x. get_or x at 0) c.pop_ready.ensures.numbers ∙ number_in at s.live.numbers ls l s.numbered h ∙ n in
    let ring = c.put_behind.ensures.ring ∙ ap (λ x. ring_behind c.run-turn.result x rest) told in
    let told' = ap (λ x. get_or x at 0) ns ∙ number_in at s.live.numbers ls l s.numbered h ∙ n in
    let read = rw i at c.index-2.ensures in
    let same_number = ap (λ x. x.number) (read_again ls at c.index-2.result.now l read h) ∙ n in
    let room : length s.queue.items + length s.queue.asleep < s.config.connections → length s.queue.items < s.queue.room = λ few. omega (arith, few, s.queue_room) in
    let sleep_room : length s.queue.items + length s.queue.asleep < s.config.connections → length s.queue.asleep < s.queue.room = λ few. omega (arith, few, s.queue_room) in
    let queue_is : length s.queue.items + length s.queue.asleep < s.config.connections → c.put_behind.new.queue.items ≡ queue_behind c.run-turn.result number s.queue.items = λ few. c.put_behind.ensures.queue (room few) ∙ ap (λ m. queue_behind c.run-turn.result m s.queue.items) same_number in
    let asleep_is : length s.queue.items + length s.queue.asleep < s.config.connections → c.put_behind.new.queue.asleep ≡ sleepers_behind c.run-turn.result number s.moment s.queue.asleep = λ few. c.put_behind.ensures.asleep (sleep_room few) ∙ ap (λ m. sleepers_behind c.run-turn.result m s.moment s.queue.asleep) same_number in
    let mine = c.run-turn.ensures.runs.0 in
    let told = mine ++ sleep_note c.run-turn.result c.index-2.result.now.number s.moment in
    let noted = c.note_sleep.ensures.told ∙ ap (λ ns. ns ++ sleep_note c.run-turn.result c.index-2.result.now.number s.moment) c.run-turn.ensures.runs.1 ∙ append_assoc c.args.notes.now.items mine (sleep_note c.run-turn.result c.index-2.result.now.number s.moment) in
    let over = sym c.put_behind.ensures.over ∙ c.if-put_behind.true in
    let left = ring ∙ behind_over c.run-turn.result number rest over in
    let gone_ring = c.remove.ensures.ring ∙ ap (λ x. without x c.put_behind.new.live.ring) told' ∙ ap (without number) left ∙ without_missing number rest p.once ∙ sym (behind_over c.run-turn.result number rest over) in (
      told,
      noted,
      front_runs _ _ s.live.ring rest number told _ p.ring (record {
        keeps = record { config = refl; statics = refl; places = refl };
        last = refl;
        moment = refl;
        store = refl;
        at = at;
        place = place;
        before = l;
        found = h;
        after = m;
        same = c.run-turn.ensures.same;
        setup = c.setup_at-setup.result;
        setup_is = subst P (ap (λ x. x.vs) same) c.setup_at-setup.ensures;
        turn = c.run-turn.result;
        told = mine;
        notes = ap (λ m. mine ++ sleep_note c.run-turn.result m s.moment) same_number;
        edges = c.run-turn.ensures.runs.3;
        runs = rw n at c.run-turn.ensures.runs.2;
        whole = given_is _ _ c.run-turn.ensures.runs.0 c.run-turn.result _ c.run-turn.ensures.runs.1 c.run-turn.ensures.slice;
        bounded = omega (arith, c.run-turn.ensures.bounded);
        ring = gone_ring;
        queue = λ few. queue_is few;
        asleep = λ few. asleep_is few;
        goes_on = λ f. let t : true ≡ false = sym over ∙ f in (cc);
        over = λ f. c.remove.ensures.items ∙ ap (λ x. remove x at) items ∙ remove_set at ls m;
      }),
    )

pub returns-else-put_behind-clause-runs : goal.returns-else-put_behind-clause-runs
returns-else-put_behind-clause-runs g c =
    let s = c.args.self.now in
    let ls = s.live.items in
    let at = c.in-Some.at in
    let l = c.index_mut.result.now in
    let m = c.run-turn.new.self in
    let i = c.pop_ready.ensures.items in
    let h = rw i at c.index_mut.ensures.value in
    let items = c.put_behind.ensures.items ∙ ap (λ k. set k at m) i in
    let ns = c.put_behind.ensures.numbers ∙ c.pop_ready.ensures.numbers in
    let p = c.in-Some.ensures.pops in
    let number = p.number in
    let rest = c.pop_ready.new.self.ring in
    let place = place_there number at s.live.numbers ls s.numbered p.place in
    let n = number_at number at ls l place h in
    let k = rw i at c.index.ensures in
    let same = read_again ls at c.index.result.now l k h in
    let P : ℕ → Type 0 = λ v. IsSetup s.config s.statics.statics s.places v c.setup_at-setup.result in
    let told = ap (λ x. get_or x at 0) c.pop_ready.ensures.numbers ∙ number_in at s.live.numbers ls l s.numbered h ∙ n in
    let ring = c.put_behind.ensures.ring ∙ ap (λ x. ring_behind c.run-turn.result x rest) told in
    let read = rw i at c.index-2.ensures in
    let same_number = ap (λ x. x.number) (read_again ls at c.index-2.result.now l read h) ∙ n in
    let room : length s.queue.items + length s.queue.asleep < s.config.connections → length s.queue.items < s.queue.room = λ few. omega (arith, few, s.queue_room) in
    let sleep_room : length s.queue.items + length s.queue.asleep < s.config.connections → length s.queue.asleep < s.queue.room = λ few. omega (arith, few, s.queue_room) in
    let queue_is : length s.queue.items + length s.queue.asleep < s.config.connections → c.put_behind.new.queue.items ≡ queue_behind c.run-turn.result number s.queue.items = λ few. c.put_behind.ensures.queue (room few) ∙ ap (λ m. queue_behind c.run-turn.result m s.queue.items) same_number in
    let asleep_is : length s.queue.items + length s.queue.asleep < s.config.connections → c.put_behind.new.queue.asleep ≡ sleepers_behind c.run-turn.result number s.moment s.queue.asleep = λ few. c.put_behind.ensures.asleep (sleep_room few) ∙ ap (λ m. sleepers_behind c.run-turn.result m s.moment s.queue.asleep) same_number in
    let mine = c.run-turn.ensures.runs.0 in
    let told = mine ++ sleep_note c.run-turn.result c.index-2.result.now.number s.moment in
    let noted = c.note_sleep.ensures.told ∙ ap (λ ns. ns ++ sleep_note c.run-turn.result c.index-2.result.now.number s.moment) c.run-turn.ensures.runs.1 ∙ append_assoc c.args.notes.now.items mine (sleep_note c.run-turn.result c.index-2.result.now.number s.moment) in
    let over = sym c.put_behind.ensures.over ∙ c.if-put_behind.false in (
      told,
      noted,
      front_runs _ _ s.live.ring rest number told _ p.ring (record {
        keeps = record { config = refl; statics = refl; places = refl };
        last = refl;
        moment = refl;
        store = refl;
        at = at;
        place = place;
        before = l;
        found = h;
        after = m;
        same = c.run-turn.ensures.same;
        setup = c.setup_at-setup.result;
        setup_is = subst P (ap (λ x. x.vs) same) c.setup_at-setup.ensures;
        turn = c.run-turn.result;
        told = mine;
        notes = ap (λ m. mine ++ sleep_note c.run-turn.result m s.moment) same_number;
        edges = c.run-turn.ensures.runs.3;
        runs = rw n at c.run-turn.ensures.runs.2;
        whole = given_is _ _ c.run-turn.ensures.runs.0 c.run-turn.result _ c.run-turn.ensures.runs.1 c.run-turn.ensures.slice;
        bounded = omega (arith, c.run-turn.ensures.bounded);
        ring = ring;
        queue = λ few. queue_is few;
        asleep = λ few. asleep_is few;
        goes_on = λ f. items;
        over = λ f. let t : true ≡ false = sym f ∙ over in (cc);
      }),
    )

pub returns-in_default-clause-runs : goal.returns-in_default-clause-runs
returns-in_default-clause-runs g c =
    let s = c.args.self.now in
    let e = c.in_default.ensures.none in (
      [],
      sym (append-nil _),
      idle_runs s _ s.live.ring _ e.0 (record {
        keeps = record { config = refl; statics = refl; places = refl };
        last = refl;
        moment = refl;
        live = c.pop_ready.ensures.items;
        ring = e.1;
        queue = refl;
        asleep = refl;
        store = refl;
        notes = refl;
        no_step = omega arith;
      }),
    )

-- where the Run stopped at a call there was room for the note
few_told : (b : Bool) (old mid new : ℕ) → new ≤ mid + (if b then 1 else 0) → mid ≤ old + 68 → (b ≡ true → mid ≤ old + 67) → new ≤ old + 68
few_told true old mid new k few asked = let n = asked refl in omega (arith, k, n)
few_told false old mid new k few asked = omega (arith, k, few)

pub returns-then-put_behind-clause-few_notes : goal.returns-then-put_behind-clause-few_notes
returns-then-put_behind-clause-few_notes g c =
    few_told (asks c.run-turn.result) (length c.args.notes.now.items) (length c.run-turn.new.notes.items) (length c.note_sleep.new.notes.items) c.note_sleep.ensures.few c.run-turn.ensures.few_notes (λ e. (c.run-turn.ensures.few_asked e).1)

pub returns-else-put_behind-clause-few_notes : goal.returns-else-put_behind-clause-few_notes
returns-else-put_behind-clause-few_notes g c =
    few_told (asks c.run-turn.result) (length c.args.notes.now.items) (length c.run-turn.new.notes.items) (length c.note_sleep.new.notes.items) c.note_sleep.ensures.few c.run-turn.ensures.few_notes (λ e. (c.run-turn.ensures.few_asked e).1)
