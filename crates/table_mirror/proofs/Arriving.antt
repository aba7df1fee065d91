-- An entry arrives at the standby.
use Rattle.std.proofs.Common.{◌≡◌, ◌∙◌, ◌⊎◌, inl, inr, ℕ, ◌+◌, ◌<◌, zero, suc, Bool, true, false, cond, List, [], ◌∷◌, ◌++◌, Option, Some, None, Result, Ok, Err, ap, ap₂, arith, length, refl, slice_get, subst, sym}
use Rattle.std.specs.Prelude.{IfOk, OnOk, nat_eq, nat_lt}
use Rattle.std.proofs.Math.ListN.{take}
use Rattle.std.proofs.lemmas.Bool.Decides.{nat_tests}
use Rattle.px_bytes.specs.declared.fault.Reply.{Reply}
use Rattle.session_table.specs.Tables.{TableState, after, new_table}
use Rattle.table_mirror.specs.Mirrored.{answered_all, differs, mirrored}
use Rattle.table_mirror.specs.Network.{World, acknowledged, entry_arrives, next_arrives, taken}
use Rattle.table_mirror.specs.Pushed.{Entry}
use Rattle.table_mirror.specs.Sides.{TakenTo, applied_or, is_other, taken_by}
use Rattle.table_mirror.specs.Worlds.{Became, Shows, ToldBy, world_of}
use Rattle.table_mirror.specs.declared.network.Network.{Network}
use Rattle.table_mirror.specs.declared.packet.MirrorStop.{MirrorStop}
use Rattle.table_mirror.specs.declared.packet.MirrorStop.TheVariants.{Differs}
use Rattle.table_mirror.specs.declared.packet.Packet.TheVariants.{Acknowledges}
use Rattle.table_mirror.specs.declared.standby.EntryTaken.{EntryTaken}
use Rattle.table_mirror.specs.declared.standby.EntryTaken.TheVariants as taking
use Rattle.table_mirror.specs.declared.standby.Standby.{Standby}

-- the table behind one entry more
one_more : (table : TableState) (es : List Entry) (n : ℕ) (e : Entry) → slice_get es n ≡ Some e
    → answered_all table (take (n + 1) es) ≡ after (answered_all table (take n es)) e.moment e.words
one_more table [] n e is = absurd (let h = is in cc)
one_more table (x ∷ es) zero e is = let same : x ≡ e = let h = is in cc in ap (λ (y : Entry). after table y.moment y.words) same
one_more table (x ∷ es) (suc n) e is =
    let next : suc n + 1 ≡ suc (n + 1) = omega arith in
    ap (λ k. answered_all table (take k (x ∷ es))) next ∙ one_more (after table x.moment x.words) es n e is

module _ (limit : ℕ) (entries : List Entry) where
  -- what it applied stays, and it tells so
  tells : (old new : Network) → Shows limit entries old (world_of old) → ToldBy old new
      → Shows limit entries new (acknowledged (world_of old))
  tells old new s told = record {
    world = ap₂ (λ a (b : Standby). record { acked = a; applied = b.applied; packets = new.packets.items }) (ap (λ x. x.acked) told.0) told.1
        ∙ ap (λ ps. record { acked = old.sender.acked; applied = old.standby.applied; packets = ps }) told.2;
    pushed = ap (λ x. x.pushed) told.0 ∙ s.pushed;
    table = ap (λ (b : Standby). b.table) told.1 ∙ s.table ∙ ap (λ (b : Standby). mirrored limit (take b.applied entries)) (sym told.1);
  }

  -- an entry that isn't the next
  pub passed_by : (place : ℕ) (old new : Network) (w : World) → Shows limit entries old w → nat_eq place w.applied ≡ false ⊎ (slice_get entries place ≡ None)
      → ToldBy old new → Became limit entries new None (entry_arrives limit entries place w)
  passed_by place old new w s why told =
      subst (λ w. nat_eq place w.applied ≡ false ⊎ (slice_get entries place ≡ None) → Became limit entries new None (entry_arrives limit entries place w)) s.world
      (λ why. by why (nat_eq place old.standby.applied) refl) why
    where
      here : Shows limit entries old (world_of old)
      here = record { world = refl; pushed = s.pushed; table = s.table }

      by : nat_eq place old.standby.applied ≡ false ⊎ (slice_get entries place ≡ None) → (b : Bool) → nat_eq place old.standby.applied ≡ b
          → Became limit entries new None (cond b (next_arrives limit entries (slice_get entries place) (world_of old)) (Ok (acknowledged (world_of old))))
      by why false is = tells old new here told
      by (inl apart) true is = absurd (let h = sym is ∙ apart in cc)
      by (inr none) true is = rw none (tells old new here told)

  abbrev arrives_at : ℕ → Network → Result World MirrorStop
  arrives_at place old = entry_arrives limit entries place (world_of old)

  next_is : (place : ℕ) (old : Network) (e : Entry) → Shows limit entries old (world_of old) → slice_get entries place ≡ Some e
      → place ≡ old.standby.applied → arrives_at place old ≡ taken (differs old.standby.table e) (world_of old)
  next_is place old e s at is =
      let same : nat_eq place old.standby.applied ≡ true = grind (arith, nat_tests) in
      let table = sym s.table in
      rw same (rw at (ap (λ t. taken (differs t e) (world_of old)) table))

  -- its reply differs
  pub differs_there : (place : ℕ) (old : Network) (w : World) (new : Network) (e : Entry) (t : EntryTaken) → Shows limit entries old w
      → slice_get entries place ≡ Some e → t ≡ taken_by old.standby place e → is_other t ≡ true
      → Became limit entries new (Some (Differs (place + 1))) (entry_arrives limit entries place w)
  differs_there place old w new e t s at is other =
      subst (λ w. Became limit entries new (Some (Differs (place + 1))) (entry_arrives limit entries place w)) s.world
      (by (nat_lt place old.standby.applied) (nat_lt old.standby.applied place) refl refl (sym (ap is_other is) ∙ other))
    where
      here : Shows limit entries old (world_of old)
      here = record { world = refl; pushed = s.pushed; table = s.table }

      due : place ≡ old.standby.applied → (o : Option Reply) → differs old.standby.table e ≡ o → is_other (applied_or o) ≡ true
          → Became limit entries new (Some (Differs (place + 1))) (taken o (world_of old))
      due same None d h = absurd (let k = h in cc)
      due same (Some other) d h = ap (λ n. Differs (n + 1)) same

      by : (b c : Bool) → nat_lt place old.standby.applied ≡ b → nat_lt old.standby.applied place ≡ c
          → is_other (cond b taking.Old (cond c taking.Ahead (applied_or (differs old.standby.table e)))) ≡ true
          → Became limit entries new (Some (Differs (place + 1))) (arrives_at place old)
      by true c x y h = absurd (let k = h in cc)
      by false true x y h = absurd (let k = h in cc)
      by false false x y h =
          let same : place ≡ old.standby.applied = grind (arith, nat_tests) in
          subst (Became limit entries new (Some (Differs (place + 1)))) (sym (next_is place old e here at same))
          (due same (differs old.standby.table e) refl h)

  -- the standby was given it, and told how many it applied
  pub was_taken : (place : ℕ) (old mid new : Network) (w : World) (e : Entry) (t : EntryTaken) → Shows limit entries old w
      → slice_get entries place ≡ Some e → t ≡ taken_by old.standby place e → TakenTo t old.standby mid.standby e
      → is_other t ≡ false → mid.sender ≡ old.sender → mid.packets ≡ old.packets → ToldBy mid new
      → Became limit entries new None (entry_arrives limit entries place w)
  was_taken place old mid new w e t s at is to kept sender packets told =
      by (nat_lt place old.standby.applied) (nat_lt old.standby.applied place) refl refl is
    where
      stays : mid.standby ≡ old.standby → nat_eq place w.applied ≡ false → Became limit entries new None (entry_arrives limit entries place w)
      stays same apart =
          let there : Shows limit entries mid w = record {
            world = ap₂ (λ (b : Standby) a. record { acked = a; applied = b.applied; packets = mid.packets.items }) same (ap (λ x. x.acked) sender)
                ∙ ap (λ ps. record { acked = old.sender.acked; applied = old.standby.applied; packets = ps.items }) packets ∙ s.world;
            pushed = ap (λ x. x.pushed) sender ∙ s.pushed;
            table = ap (λ (b : Standby). b.table) same ∙ s.table ∙ ap (λ (b : Standby). mirrored limit (take b.applied entries)) (sym same);
          } in
          passed_by place mid new w there (inl apart) told

      apart : ¬ (place ≡ old.standby.applied) → nat_eq place w.applied ≡ false
      apart differ = let same = ap (λ v. v.applied) s.world in grind (arith, nat_tests)

      by : (b c : Bool) → nat_lt place old.standby.applied ≡ b → nat_lt old.standby.applied place ≡ c
          → t ≡ cond b taking.Old (cond c taking.Ahead (applied_or (differs old.standby.table e)))
          → Became limit entries new None (entry_arrives limit entries place w)
      by true c x y h = stays (subst (λ t. TakenTo t old.standby mid.standby e) h to) (apart (λ same. absurd (grind (arith, nat_tests))))
      by false true x y h = stays (subst (λ t. TakenTo t old.standby mid.standby e) h to) (apart (λ same. absurd (grind (arith, nat_tests))))
      by false false x y h = next (differs old.standby.table e) refl h
        where
          next : (o : Option Reply) → differs old.standby.table e ≡ o → t ≡ applied_or o → Became limit entries new None (entry_arrives limit entries place w)
          next (Some ours) d h = absurd (let k = sym (ap is_other h) ∙ kept in cc)
          next None d h =
              let same : place ≡ old.standby.applied = grind (arith, nat_tests) in
              let moved = subst (λ t. TakenTo t old.standby mid.standby e) h to in
              let here : Shows limit entries old (world_of old) = record { world = refl; pushed = s.pushed; table = s.table } in
              let applied = ap (λ (b : Standby). b.applied) moved in
              let is_next = ap (slice_get entries) (sym same) ∙ at in
              let table = ap (λ (b : Standby). b.table) moved ∙ ap (λ t. after t e.moment e.words) s.table
              ∙ sym (one_more (new_table limit) entries old.standby.applied e is_next) ∙ ap (λ n. mirrored limit (take n entries)) (sym applied) in
              let world = ap₂ (λ a n. record { acked = a; applied = n; packets = mid.packets.items }) (ap (λ x. x.acked) sender) applied
              ∙ ap (λ ps. record { acked = old.sender.acked; applied = old.standby.applied + 1; packets = ps.items }) packets in
              let there : Shows limit entries mid (world_of mid) = record { world = refl; pushed = ap (λ x. x.pushed) sender ∙ s.pushed; table = table } in
              let told_so = subst (λ w. Shows limit entries new (acknowledged w)) world (tells mid new there told) in
              subst (λ w. Became limit entries new None (entry_arrives limit entries place w)) s.world
              (subst (Became limit entries new None) (sym (next_is place old e here at same ∙ ap (λ o. taken o (world_of old)) d)) told_so)

-- where it was told, no stop is given
pub on_told : {E : Type 0} (r : Result (Option MirrorStop) E) (T : Type 0) (P : Option MirrorStop → Type 0) → IfOk r (λ stop. stop ≡ None)
    → OnOk r T → (T → P None) → IfOk r P
on_told (Ok stop) T P none told p = subst P (sym none) (p told)
on_told (Err e) T P none told p = _
