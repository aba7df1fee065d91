-- What the server connections of one connection took and what is left to them, by number, and what was heard of the last.
use Rattle.std.proofs.Common.{◌≡◌, refl, sym, ap, subst, ◌∙◌, ℕ, zero, suc, ◌+◌, ◌-◌, ◌<◌, ◌≤◌, List, [], ◌∷◌, length, Bool, true, false, ◌&&◌, true≢false, if◌then◌else◌, Option, Some, None, is_none, arith, zero-add}
use Rattle.std.specs.Prelude.{slice_get, unwrap_or, nat_lt}
use Rattle.std.proofs.lemmas.Bool.Decides.{nat_tests}
use Rattle.px_bytes.specs.declared.addr.Side.TheVariants.{Server}
use Rattle.core_events.specs.declared.note.CutReason.TheVariants.{ServerReset}
use Rattle.conn_trace.specs.Gates.{no_bytes, sent_from, taken_of, to_take, untaken}
use Rattle.conn_trace.specs.Heard.{Heard, SideHeard, taken, taken_by, servers_taken, start_of}
use Rattle.conn_trace.specs.Item.{Item, server_output}
use Rattle.conn_trace.specs.Places.{is_up}
use Rattle.conn_trace.specs.Queries.{is_reset}
use Rattle.conn_trace.specs.Setup.{Setup}
use Rattle.conn_trace.specs.State.{Stream, TraceState, link_of}
use Rattle.conn_trace.specs.Trace.{Unfolds}
use Rattle.conn.specs.RunsItems.{licenses as licensed_at}
use Rattle.proxy_core.specs.Scheduler.{Seen, last_took, untaken_of, servers_left}
use Rattle.proxy_core.specs.Servers.{any_reset, awaits, last_reset, made, took_of}
use Rattle.proxy_core.specs.Sound.{ServedAt}
use Rattle.proxy_core.proofs.Linking.{must_wait, none_waits}
use Rattle.proxy_core.proofs.ServerCounts.{made_as, most_untaken, taken_last, took_last}
use Rattle.proxy_core.proofs.ServerLaws.{EarlierTook, Ordered, awaits_taken, earlier_took, made_along, none_sent, ordered, start_ordered}
use Rattle.proxy_core.proofs.Standing.{sent_at}

pub ordered_at : (g : Setup) (h : Heard) (place : List Item) (at : TraceState) → Unfolds g (start_of g h) place at → Ordered at
ordered_at g h place at u = let s = start_of g h in ordered g s at place (start_ordered g s.client s.answers) u

-- the made ones are those that the trace took, and those that wait
pub all_made : (g : Setup) (h : Heard) (place : List Item) (at : TraceState) → Unfolds g (start_of g h) place at → made h.connects ≡ made at.answers.connects + at.sent.number
all_made g h place at u =
    let s = start_of g h in
    let e : made s.answers.connects + s.sent.number ≡ made at.answers.connects + at.sent.number = made_along g s at place (start_ordered g s.client s.answers) u in
    let z : s.sent.number ≡ 0 = refl in
    let m = made_as h.connects in omega (arith, e, m, z)

-- where none waits the last is the present one
pub last_is_present : (g : Setup) (h : Heard) (place : List Item) (at : TraceState) → Unfolds g (start_of g h) place at → at.answers.connects ≡ [] → made h.connects ≡ at.sent.number
last_is_present g h place at u none = all_made g h place at u ∙ ap (λ cs. made cs + at.sent.number) none ∙ zero-add at.sent.number

-- where one waits that was made, the connections before took all
pub some_wait : (cs : List (Option Stream)) (n : ℕ) → made cs ≡ suc n → cs ≡ [] → ⊥
some_wait cs n is none = let z : made cs ≡ 0 = ap made none in absurd (omega (arith, is, z))

-- nothing is left to those that weren't reset
unreset_left : (j : ℕ) (cs : List (Option SideHeard)) (place : List Item) → any_reset cs ≡ false
    → ((n k : ℕ) → n ≡ j + k → untaken (length (server_output n place)) (unwrap_or (slice_get (servers_taken cs) k) (Some 0)) ≡ 0) → servers_left j cs place ≡ 0
unreset_left j [] place none each = refl
unreset_left j (None ∷ more) place none each = unreset_left j more place none each
unreset_left j (Some s ∷ more) place none each = by_reset (unreset_left (suc j) more place) s.reset refl none
  where
    by_reset : (any_reset more ≡ false → ((n k : ℕ) → n ≡ suc j + k → untaken (length (server_output n place)) (unwrap_or (slice_get (servers_taken more) k) (Some 0)) ≡ 0) → servers_left (suc j) more place ≡ 0) → (b : Bool) → s.reset ≡ b → (if b then true else any_reset more) ≡ false → (length (server_output j place) - s.took) + servers_left (suc j) more place ≡ 0
    by_reset again true e n = absurd (true≢false n)
    by_reset again false e n =
        let here : untaken (length (server_output j place)) (taken_by s.reset s.took) ≡ 0 = each j 0 (omega arith) in
        let first : length (server_output j place) - s.took ≡ 0 = sym (ap (λ b. untaken (length (server_output j place)) (taken_by b s.took)) e) ∙ here in
        let rest = again n (λ m k is. each m (suc k) (omega (arith, is))) in
        omega (arith, first, rest)

-- What holds of the server connection that was heard of last, and of all. Its reset licenses a cut while it is up.
pub record FactsAt (g : Setup) (h : Heard) (place : List Item) (at : TraceState) : Type 0 where
  pub kept : last_reset h.connects ≡ false → last_took h.connects + untaken_of h place Server ≡ length (server_output (made h.connects) place)
  pub gone : last_reset h.connects ≡ true → untaken_of h place Server ≡ 0
  pub left : untaken_of h place Server ≡ 0 → any_reset h.connects ≡ false → servers_left 1 h.connects place ≡ 0
  pub license : last_reset h.connects ≡ true → is_up (link_of at.server) ≡ true → licensed_at ServerReset at (taken h) ≡ true

module _ (g : Setup) (c : ℕ) (z : Seen) (at : TraceState) (k : ServedAt g c z at) where
  sent : at.sent ≡ sent_from no_bytes z.place
  sent = sent_at g z.heard z.place at k.stands

  left : untaken_of z.heard z.place Server ≡ untaken at.sent.server (taken_of (servers_taken z.heard.connects) at.sent.number)
  left = ap (λ s. to_take s (taken z.heard) Server) (sym sent)

  earlier : EarlierTook (taken z.heard) at z.place
  earlier = let s = start_of g z.heard in earlier_took g (taken z.heard) s.client s.answers at z.place k.met k.stands

  -- where an answer waits the one before took all
  none_left : awaits at.phase ≡ true → untaken_of z.heard z.place Server ≡ 0
  none_left waits = let s = start_of g z.heard in left ∙ awaits_taken g (taken z.heard) s.client s.answers at z.place k.met k.stands waits

  -- what the last took and what is pending were sent to it
  pub server_left : took_of z.heard.connects (made z.heard.connects) + untaken_of z.heard z.place Server ≤ length (server_output (made z.heard.connects) z.place)
  server_left = by_waiting at.answers.connects refl
    where
      L : ℕ → Type 0
      L n = took_of z.heard.connects n + untaken_of z.heard z.place Server ≤ length (server_output n z.place)

      by_waiting : (cs : List (Option Stream)) → at.answers.connects ≡ cs → L (made z.heard.connects)
      by_waiting [] e =
          let number = last_is_present g z.heard z.place at k.stands e in
          let most = most_untaken z.heard.connects at.sent.number at.sent.server in
          let within = k.within.servers at.sent.number in
          let all = earlier.present in
          subst L (sym number) (omega (arith, left, most, all, within))
      by_waiting (o ∷ more) e =
          let none = none_left (must_wait z.heard.finished (taken z.heard) at z.heard.edges.server.state o more k.linked e) in
          let within = k.within.servers (made z.heard.connects) in
          omega (arith, none, within)

  waits_there : (n : ℕ) → made at.answers.connects ≡ suc n → awaits at.phase ≡ true
  waits_there n is = by_list at.answers.connects refl
    where
      by_list : (cs : List (Option Stream)) → at.answers.connects ≡ cs → awaits at.phase ≡ true
      by_list [] e = absurd (some_wait at.answers.connects n is e)
      by_list (o ∷ more) e = must_wait z.heard.finished (taken z.heard) at z.heard.edges.server.state o more k.linked e

  -- by its number nothing is left
  each_left : untaken_of z.heard z.place Server ≡ 0 → (n j : ℕ) → n ≡ 1 + j → untaken (length (server_output n z.place)) (taken_of (servers_taken z.heard.connects) n) ≡ 0
  each_left none n j is = by_below (nat_lt n at.sent.number) refl (nat_lt at.sent.number n) refl
    where
      nothing : (o : Option ℕ) → untaken 0 o ≡ 0
      nothing None = refl
      nothing (Some t) = omega arith

      by_below : (a : Bool) → nat_lt n at.sent.number ≡ a → (b : Bool) → nat_lt at.sent.number n ≡ b → untaken (length (server_output n z.place)) (taken_of (servers_taken z.heard.connects) n) ≡ 0
      by_below true e b f = let below : n < at.sent.number = grind (arith, nat_tests, e) in earlier.earlier n below
      by_below false e true f =
          let above : at.sent.number < n = grind (arith, nat_tests, f) in
          let out = ap length (none_sent g (start_of g z.heard) at z.place n k.stands above) in
          ap (λ x. untaken x (taken_of (servers_taken z.heard.connects) n)) out ∙ nothing (taken_of (servers_taken z.heard.connects) n)
      by_below false e false f =
          let a : at.sent.number ≤ n = grind (arith, nat_tests, e) in
          let b : n ≤ at.sent.number = grind (arith, nat_tests, f) in
          let same : n ≡ at.sent.number = omega (arith, a, b) in
          ap (λ x. untaken (length (server_output x z.place)) (taken_of (servers_taken z.heard.connects) x)) same
          ∙ ap (λ x. untaken x (taken_of (servers_taken z.heard.connects) at.sent.number)) (sym earlier.present) ∙ sym left ∙ none

  pub server_facts : FactsAt g z.heard z.place at
  server_facts = record {
    kept = kept (made at.answers.connects) refl;
    gone = gone (made at.answers.connects) refl;
    left = λ none unreset. unreset_left 1 z.heard.connects z.place unreset (λ n j is. ap (λ m. untaken (length (server_output n z.place)) (taken_of (servers_taken z.heard.connects) m)) (sym (let e : n ≡ suc j = omega (arith, is) in e)) ∙ each_left none n j is);
    license = λ r up. license r up;
  }
    where
      cs : List (Option SideHeard)
      cs = z.heard.connects

      -- the last is the present one
      present : made at.answers.connects ≡ 0 → made cs ≡ at.sent.number
      present none = let a = all_made g z.heard z.place at k.stands in omega (arith, a, none)

      is : made at.answers.connects ≡ 0 → untaken_of z.heard z.place Server ≡ untaken at.sent.server (taken_by (last_reset cs) (last_took cs))
      is none = left ∙ ap (untaken at.sent.server) (ap (taken_of (servers_taken cs)) (sym (present none)) ∙ taken_last cs)

      within : last_took cs ≤ length (server_output (made cs) z.place)
      within = let w = k.within.servers (made cs) in let l = took_last cs in omega (arith, w, l)

      kept : (n : ℕ) → made at.answers.connects ≡ n → last_reset cs ≡ false → last_took cs + untaken_of z.heard z.place Server ≡ length (server_output (made cs) z.place)
      kept zero none r =
          let b : untaken_of z.heard z.place Server ≡ at.sent.server - last_took cs = is none ∙ ap (λ x. untaken at.sent.server (taken_by x (last_took cs))) r in
          let all = earlier.present in
          let same = ap (λ x. length (server_output x z.place)) (present none) in
          omega (arith, b, all, same, within)
      kept (suc n) some r =
          let none = none_left (waits_there n some) in
          let a = all_made g z.heard z.place at k.stands in
          let out = ap length (none_sent g (start_of g z.heard) at z.place (made cs) k.stands (omega (arith, a, some))) in
          omega (arith, none, out, within)

      gone : (n : ℕ) → made at.answers.connects ≡ n → last_reset cs ≡ true → untaken_of z.heard z.place Server ≡ 0
      gone zero none r = is none ∙ ap (λ x. untaken at.sent.server (taken_by x (last_took cs))) r
      gone (suc n) some r = none_left (waits_there n some)

      license : last_reset cs ≡ true → is_up (link_of at.server) ≡ true → licensed_at ServerReset at (taken z.heard) ≡ true
      license r up =
          let calm = by_waits (awaits at.phase) refl in
          let none = none_waits z.heard.finished (taken z.heard) at z.heard.edges.server.state k.linked calm in
          let number = last_is_present g z.heard z.place at k.stands none in
          let taken_is : taken_of (servers_taken cs) at.sent.number ≡ taken_by (last_reset cs) (last_took cs) = ap (taken_of (servers_taken cs)) (sym number) ∙ taken_last cs in
          ap (λ b. b && is_reset at.sent (taken z.heard) Server) up ∙ ap is_none taken_is ∙ ap (λ x. is_none (taken_by x (last_took cs))) r
        where
          by_waits : (b : Bool) → awaits at.phase ≡ b → awaits at.phase ≡ false
          by_waits true w = absurd (let a = (ordered_at g z.heard z.place at k.stands).going.asked w in let x = sym up ∙ ap is_up a in true≢false x)
          by_waits false w = w
