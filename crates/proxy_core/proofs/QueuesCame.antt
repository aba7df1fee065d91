-- What is queued to the ends of a connection behind something that comes of it, by the number of each server connection.
use Rattle.std.proofs.Common.{◌≡◌, refl, sym, ap, subst, ◌∙◌, ℕ, zero, suc, ◌+◌, ◌-◌, ◌<◌, ◌≤◌, List, [], ◌∷◌, ◌++◌, append-nil, length, drop, Bool, true, false, ◌||◌, true≢false, if◌then◌else◌, Option, Some, None, arith}
use Rattle.std.proofs.lemmas.List.{drop-drop, length-drop}
use Rattle.px_bytes.specs.declared.addr.Side.TheVariants.{Client, Server}
use Rattle.core_events.specs.declared.input.Input.{Input}
use Rattle.core_events.specs.declared.input.Input.TheVariants.{Bytes, Ends, Resets, Connects, Takes}
use Rattle.core_events.specs.declared.note.Note.{Note}
use Rattle.conn_trace.specs.Further.{Coming}
use Rattle.conn_trace.specs.Heard.{Brought, Heard, brought, SideHeard, at_last, unless_late, brings_in, brought_nothing, event_brings, event_marks, fresh_side, has_made, hears, hears_more, marks}
use Rattle.core_events.specs.declared.event_kind.EventKind.TheVariants.{Comes}
use Rattle.conn_trace.specs.Item.{Item, client_output, server_output}
use Rattle.conn_trace.specs.Tellings.{finish_told, notes_about}
use Rattle.conn.specs.Ends.{has_stream, heard_end}
use Rattle.conn.specs.declared.ends.Ends.{Ends as BothEnds}
use Rattle.proxy_core.specs.Live.{ends_met}
use Rattle.proxy_core.specs.Represents.{HoldsQueues, around}
use Rattle.proxy_core.specs.Scheduler.{last_took, servers_left}
use Rattle.proxy_core.specs.Servers.{made}
use Rattle.proxy_core.proofs.HeardServers.{joined_made, last_made}
use Rattle.proxy_core.proofs.Meeting.{brought_is, client_counted, client_queued, ends_lost, heard_connects, hears_took, last_keeps, last_more, marked_is, server_queued, took_client, took_refused, took_server, met_at}
use Rattle.proxy_core.proofs.ServerCounts.{none_made}

-- ---- what is left

-- the same was made, taken of the last, and left
pub record SameLeft (cs cs' : List (Option SideHeard)) (place : List Item) : Type 0 where
  pub took : last_took cs' ≡ last_took cs
  pub made_same : made cs' ≡ made cs
  pub left : servers_left 1 cs' place ≡ servers_left 1 cs place

left_last : (f : SideHeard → SideHeard) → ((s : SideHeard) → (f s).took ≡ s.took) → (j : ℕ) (cs : List (Option SideHeard)) (place : List Item) → servers_left j (at_last f cs) place ≡ servers_left j cs place
left_last f same j [] place = refl
left_last f same j (None ∷ more) place = left_last f same j more place
left_last f same j (Some s ∷ more) place = by_made (has_made more) ∙ ap (λ n. (length (server_output j place) - s.took) + n) (left_last f same (suc j) more place)
  where
    by_made : (b : Bool) → (length (server_output j place) - (if b then s else f s).took) + servers_left (suc j) (at_last f more) place ≡ (length (server_output j place) - s.took) + servers_left (suc j) (at_last f more) place
    by_made true = refl
    by_made false = ap (λ t. (length (server_output j place) - t) + servers_left (suc j) (at_last f more) place) (same s)

same_last : (f : SideHeard → SideHeard) → ((s : SideHeard) → (f s).took ≡ s.took) → (cs : List (Option SideHeard)) (place : List Item) → SameLeft cs (at_last f cs) place
same_last f same cs place = record { took = last_keeps f same cs; made_same = last_made f cs; left = left_last f same 1 cs place }

same_unless : (late : Bool) (f : SideHeard → SideHeard) → ((s : SideHeard) → (f s).took ≡ s.took) → (cs : List (Option SideHeard)) (place : List Item) → SameLeft cs (unless_late late f cs) place
same_unless true f same cs place = record { took = refl; made_same = refl; left = refl }
same_unless false f same cs place = same_last f same cs place

same_then : (a b d : List (Option SideHeard)) (place : List Item) → SameLeft a b place → SameLeft b d place → SameLeft a d place
same_then a b d place p q = record { took = q.took ∙ p.took; made_same = q.made_same ∙ p.made_same; left = q.left ∙ p.left }

same_as : (a b : List (Option SideHeard)) (place : List Item) → b ≡ a → SameLeft a b place
same_as a b place e = record { took = ap last_took e; made_same = ap made e; left = ap (λ cs. servers_left 1 cs place) e }

left_refused : (j : ℕ) (cs : List (Option SideHeard)) (place : List Item) → servers_left j (cs ++ None ∷ []) place ≡ servers_left j cs place
left_refused j [] place = refl
left_refused j (None ∷ more) place = left_refused j more place
left_refused j (Some s ∷ more) place = ap (λ n. (length (server_output j place) - s.took) + n) (left_refused (suc j) more place)

same_refused : (cs : List (Option SideHeard)) (place : List Item) → SameLeft cs (cs ++ None ∷ []) place
same_refused cs place = record { took = took_refused cs; made_same = (let e = joined_made cs (None ∷ []) in omega (arith, e)); left = left_refused 1 cs place }

left_answered : (j : ℕ) (cs : List (Option SideHeard)) (place : List Item) → servers_left j (cs ++ Some fresh_side ∷ []) place ≡ servers_left j cs place + length (server_output (j + made cs) place)
left_answered j [] place = (let n : j + 0 ≡ j = omega arith in let e = ap (λ m. length (server_output m place)) n in omega (arith, e))
left_answered j (None ∷ more) place = left_answered j more place
left_answered j (Some s ∷ more) place =
    let rest = left_answered (suc j) more place in
    let n : suc j + made more ≡ j + suc (made more) = omega arith in
    let e = ap (λ m. length (server_output m place)) n in
    omega (arith, rest, e)

left_unmade : (n j : ℕ) (more : List (Option SideHeard)) (place : List Item) → has_made more ≡ false → servers_left j (at_last (λ s. record s { took = s.took + n }) more) place ≡ servers_left j more place
left_unmade n j [] place e = refl
left_unmade n j (None ∷ more) place e = left_unmade n j more place e
left_unmade n j (Some s ∷ more) place e = absurd (true≢false e)

-- the last took so much more
left_took : (n j : ℕ) (cs : List (Option SideHeard)) (place : List Item) → has_made cs ≡ true → ((m : ℕ) → suc m ≡ j + made cs → last_took cs + n ≤ length (server_output m place)) → servers_left j (at_last (λ s. record s { took = s.took + n }) cs) place + n ≡ servers_left j cs place
left_took n j [] place there within = absurd (true≢false (sym there))
left_took n j (None ∷ more) place there within = left_took n j more place there within
left_took n j (Some s ∷ more) place there within = by_made (has_made more) refl (left_took n (suc j) more place)
  where
    by_made : (b : Bool) → has_made more ≡ b → (has_made more ≡ true → ((m : ℕ) → suc m ≡ suc j + made more → last_took more + n ≤ length (server_output m place)) → servers_left (suc j) (at_last (λ s. record s { took = s.took + n }) more) place + n ≡ servers_left (suc j) more place) → (length (server_output j place) - (if has_made more then s else record s { took = s.took + n }).took) + servers_left (suc j) (at_last (λ s. record s { took = s.took + n }) more) place + n ≡ (length (server_output j place) - s.took) + servers_left (suc j) more place
    by_made true e again =
        let first = ap (λ b. (if b then s else record s { took = s.took + n }).took) e in
        let last : last_took (Some s ∷ more) ≡ last_took more = ap (λ b. if b then last_took more else s.took) e in
        let rest = again e (λ m is. (let w = within m (omega (arith, is)) in omega (arith, w, last))) in
        omega (arith, first, rest)
    by_made false e again =
        let first = ap (λ b. (if b then s else record s { took = s.took + n }).took) e in
        let last : last_took (Some s ∷ more) ≡ s.took = ap (λ b. if b then last_took more else s.took) e in
        let none = none_made more e in
        let w = within j (omega (arith, none)) in
        let rest = left_unmade n (suc j) more place e in
        omega (arith, first, last, w, rest)

-- ---- by what comes

abbrev pub brings_by : Input → Bool → Brought
brings_by i b = if b then brought_nothing else brings_in i

abbrev pub came_connects : Input → Bool → Heard → List (Option SideHeard)
came_connects i b h = at_last (hears_more (brings_by i b).server) (marks i h).connects ++ (brings_by i b).connects

-- where one is made, or the last took more
abbrev IsPlain : Input → Bool → Type 0
IsPlain (Connects true) false = ⊥
IsPlain (Takes Server n) b = ⊥
IsPlain other b = Unit {0}

heard_same : (d : Coming) (cs new : List (Option SideHeard)) (place : List Item) → new ≡ [] → SameLeft cs (at_last (hears_more d) cs ++ new) place
heard_same d cs new place e =
    same_then cs (at_last (hears_more d) cs) _ place (same_last (hears_more d) (hears_took d) cs place) (same_as (at_last (hears_more d) cs) _ place (ap (λ x. at_last (hears_more d) cs ++ x) e ∙ append-nil (at_last (hears_more d) cs)))

plain_left : (i : Input) (b : Bool) (h : Heard) (place : List Item) → IsPlain i b → SameLeft h.connects (came_connects i b h) place
plain_left (Bytes Client bytes) true h place p = heard_same _ h.connects [] place refl
plain_left (Bytes Client bytes) false h place p = heard_same _ h.connects [] place refl
plain_left (Bytes Server bytes) true h place p = heard_same _ h.connects [] place refl
plain_left (Bytes Server bytes) false h place p = heard_same _ h.connects [] place refl
plain_left (Ends Client) true h place p = heard_same _ h.connects [] place refl
plain_left (Ends Client) false h place p = heard_same _ h.connects [] place refl
plain_left (Ends Server) true h place p = heard_same _ h.connects [] place refl
plain_left (Ends Server) false h place p = heard_same _ h.connects [] place refl
plain_left (Resets Client) true h place p = heard_same _ h.connects [] place refl
plain_left (Resets Client) false h place p = heard_same _ h.connects [] place refl
plain_left (Resets Server) true h place p = same_then h.connects (marks (Resets Server) h).connects _ place (same_unless h.late (λ s. record s { reset = true }) (λ s. refl) h.connects place) (heard_same _ (marks (Resets Server) h).connects [] place refl)
plain_left (Resets Server) false h place p = same_then h.connects (marks (Resets Server) h).connects _ place (same_unless h.late (λ s. record s { reset = true }) (λ s. refl) h.connects place) (heard_same _ (marks (Resets Server) h).connects [] place refl)
plain_left (Takes Client n) true h place p = heard_same _ h.connects [] place refl
plain_left (Takes Client n) false h place p = heard_same _ h.connects [] place refl
plain_left (Takes Server n) b h place p = absurd p
plain_left (Connects true) true h place p = heard_same _ h.connects [] place refl
plain_left (Connects true) false h place p = absurd p
plain_left (Connects false) true h place p = heard_same _ h.connects [] place refl
plain_left (Connects false) false h place p = same_then h.connects (at_last (hears_more (brings_in (Connects false)).server) h.connects) _ place (same_last (hears_more (brings_in (Connects false)).server) (hears_took (brings_in (Connects false)).server) h.connects place) (same_refused _ place)

plain_none : (i : Input) (b : Bool) → IsPlain i b → took_server i ≡ 0
plain_none (Takes Server n) b p = absurd p
plain_none (Takes Client n) b p = refl
plain_none (Bytes side bytes) b p = refl
plain_none (Ends side) b p = refl
plain_none (Resets side) b p = refl
plain_none (Connects made) b p = refl

-- the link stays, but for an answer
plain_stream : (i : Input) (b : Bool) (e : BothEnds) → IsPlain i b → has_stream (ends_met i b e).link ≡ true → has_stream e.link ≡ true
plain_stream (Bytes Client bytes) true e p s = s
plain_stream (Bytes Client bytes) false e p s = s
plain_stream (Bytes Server bytes) true e p s = s
plain_stream (Bytes Server bytes) false e p s = by_stream (has_stream e.link) refl s
  where
    by_stream : (b : Bool) → has_stream e.link ≡ b → has_stream (if b then record e { server = heard_end (record { bytes = bytes; ended = false }) e.server } else e).link ≡ true → has_stream e.link ≡ true
    by_stream true is s = is
    by_stream false is s = s
plain_stream (Ends Client) true e p s = s
plain_stream (Ends Client) false e p s = s
plain_stream (Ends Server) true e p s = s
plain_stream (Ends Server) false e p s = by_stream (has_stream e.link) refl s
  where
    by_stream : (b : Bool) → has_stream e.link ≡ b → has_stream (if b then record e { server = heard_end (record { bytes = []; ended = true }) e.server } else e).link ≡ true → has_stream e.link ≡ true
    by_stream true is s = is
    by_stream false is s = s
plain_stream (Resets Client) b e p s = s
plain_stream (Resets Server) b e p s = s
plain_stream (Takes Client n) b e p s = s
plain_stream (Takes Server n) b e p s = absurd p
plain_stream (Connects true) true e p s = s
plain_stream (Connects true) false e p s = absurd p
plain_stream (Connects false) true e p s = s
plain_stream (Connects false) false e p s = absurd (true≢false (sym s))

drop_zero : (q : List ℕ) (n : ℕ) → n ≡ 0 → drop n q ≡ q
drop_zero q n e = ap (λ m. drop m q) e

drop_nothing : (n : ℕ) → ◌≡◌ {A = List ℕ} (drop n []) []
drop_nothing zero = refl
drop_nothing (suc n) = refl

-- what was heard of the server connections behind it
pub connects_came : (c : ℕ) (h : Heard) (input : Input) (group : List Note) → finish_told (notes_about c group) ≡ false → (hears c h (Comes c input) group).connects ≡ came_connects input h.finished h
connects_came c h input group none =
    ap (λ b. heard_connects b (event_marks c (Comes c input) h)) (brought_is c h input group none) ∙ ap (heard_connects (brings_by input h.finished)) (marked_is c h input)

pub connects_last : (c : ℕ) (h : Heard) (input : Input) (group : List Note) → finish_told (notes_about c group) ≡ true → (hears c h (Comes c input) group).connects ≡ came_connects input true h
connects_last c h input group last =
    let is : brought c h (Comes c input) group ≡ brought_nothing = ap (λ b. if h.finished || b then brought_nothing else event_brings c (Comes c input)) last ∙ by_true h.finished in
    ap (λ b. heard_connects b (event_marks c (Comes c input) h)) is ∙ ap (heard_connects brought_nothing) (marked_is c h input)
  where
    by_true : (b : Bool) → (if b || true then brought_nothing else event_brings c (Comes c input)) ≡ brought_nothing
    by_true true = refl
    by_true false = refl

-- what is known of the ends where it comes
pub record ComesThere (h : Heard) (place : List Item) (i : Input) (b : Bool) (e : BothEnds) : Type 0 where
  pub later : (n : ℕ) → made h.connects < n → server_output n place ≡ []
  pub within : last_took h.connects ≤ length (server_output (made h.connects) place)
  pub free : (made : Bool) → i ≡ Connects made → b ≡ false → e.server.queued ≡ []
  pub few : (n : ℕ) → i ≡ Takes Server n → n ≤ length e.server.queued
  pub there : has_stream e.link ≡ true → has_made h.connects ≡ true
  pub none : has_stream e.link ≡ false → e.server.queued ≡ []
  pub late : h.late ≡ true → has_stream e.link ≡ false

module _ (h h' : Heard) (place : List Item) (i : Input) (b : Bool) (e : BothEnds) (told : around h' ≡ met_at h.late i b (around h)) (is : h'.connects ≡ came_connects i b h) (t : ComesThere h place i b e) (q : HoldsQueues h place e) where
  client : (ends_met i b e).client.queued ≡ drop h'.client.took (client_output place)
  client = client_queued i b e ∙ ap (drop (took_client i)) q.client ∙ drop-drop (took_client i) h.client.took (client_output place) ∙ ap (λ n. drop n (client_output place)) (sym (ap (λ x. x.counted) told ∙ client_counted h.late i b (around h)))

  plain : IsPlain i b → HoldsQueues h' place (ends_met i b e)
  plain p =
      let s = plain_left i b h place p in
      let took = ap last_took is ∙ s.took in
      let number = ap made is ∙ s.made_same in
      let queued : (ends_met i b e).server.queued ≡ e.server.queued = server_queued i b e ∙ drop_zero e.server.queued (took_server i) (plain_none i b p) in
      let left = ap (λ cs. servers_left 1 cs place) is ∙ s.left in
      let n = ap length queued in
      let lost = ends_lost i b e in
      let before = q.lost in
      record {
        client = client;
        server = λ there. queued ∙ q.server (plain_stream i b e p there) ∙ ap (λ x. drop x (server_output (made h.connects) place)) (sym took) ∙ ap (λ x. drop (last_took h'.connects) (server_output x place)) (sym number);
        lost = omega (arith, left, n, lost, before);
      }

  -- it took bytes
  takes : (n : ℕ) → i ≡ Takes Server n → HoldsQueues h' place (ends_met i b e)
  takes n same = by_stream (has_stream e.link) refl
    where
      few : n ≤ length e.server.queued
      few = t.few n same

      queued : (ends_met i b e).server.queued ≡ drop n e.server.queued
      queued = server_queued i b e ∙ ap (λ x. drop (took_server x) e.server.queued) same

      links : (ends_met i b e).link ≡ e.link
      links = ap (λ x. (ends_met x b e).link) same

      more : List (Option SideHeard)
      more = unless_late h.late (λ s. record s { took = s.took + n }) h.connects

      heard : SameLeft more h'.connects place
      heard = (let x : h'.connects ≡ came_connects (Takes Server n) b h = is ∙ ap (λ y. came_connects y b h) same in same_then more (came_connects (Takes Server n) b h) h'.connects place (by_brings b) (same_as (came_connects (Takes Server n) b h) h'.connects place x))
        where
          by_brings : (b : Bool) → SameLeft more (came_connects (Takes Server n) b h) place
          by_brings true = heard_same _ more [] place refl
          by_brings false = heard_same _ more [] place refl

      on_time : has_stream e.link ≡ true → (b : Bool) → h.late ≡ b → unless_late b (λ s. record s { took = s.took + n }) h.connects ≡ at_last (λ s. record s { took = s.took + n }) h.connects
      on_time stream true e = absurd (true≢false (sym stream ∙ t.late e))
      on_time stream false e = refl

      by_stream : (x : Bool) → has_stream e.link ≡ x → HoldsQueues h' place (ends_met i b e)
      by_stream true stream =
          let there = t.there stream in
          let plain : more ≡ at_last (λ s. record s { took = s.took + n }) h.connects = on_time stream h.late refl in
          let took : last_took h'.connects ≡ last_took h.connects + n = heard.took ∙ ap last_took plain ∙ last_more (λ s. record s { took = s.took + n }) n (λ s. refl) h.connects there in
          let number : made h'.connects ≡ made h.connects = heard.made_same ∙ ap made plain ∙ last_made (λ s. record s { took = s.took + n }) h.connects in
          let was = q.server stream in
          let len = ap length was ∙ length-drop (last_took h.connects) (server_output (made h.connects) place) in
          let w = t.within in
          let less = left_took n 1 h.connects place there (λ m at. (let same_m : m ≡ made h.connects = omega (arith, at) in let l = ap (λ x. length (server_output x place)) same_m in omega (arith, l, len, w, few))) in
          let left = heard.left ∙ ap (λ cs. servers_left 1 cs place) plain in
          let dropped = ap length queued ∙ length-drop n e.server.queued in
          let lost = ends_lost i b e in
          let before = q.lost in
          record {
            client = client;
            server = λ s. queued ∙ ap (drop n) was ∙ drop-drop n (last_took h.connects) (server_output (made h.connects) place) ∙ ap (λ x. drop x (server_output (made h.connects) place)) (sym took) ∙ ap (λ x. drop (last_took h'.connects) (server_output x place)) (sym number);
            lost = omega (arith, less, left, dropped, lost, before, few);
          }
      by_stream false none =
          let empty = t.none none in
          let zero_taken : n ≡ 0 = (let z = ap length empty in omega (arith, few, z)) in
          let left = heard.left ∙ (same_unless h.late (λ s. record s { took = s.took + n }) (λ s. (let e : s.took + n ≡ s.took = omega (arith, zero_taken) in e)) h.connects place).left in
          let n' = ap length queued ∙ length-drop n e.server.queued in
          let lost = ends_lost i b e in
          let before = q.lost in
          record {
            client = client;
            server = λ s. absurd (true≢false (sym s ∙ ap has_stream links ∙ none));
            lost = omega (arith, left, n', lost, before, zero_taken);
          }

  -- another one is made
  makes : i ≡ Connects true → b ≡ false → HoldsQueues h' place (ends_met i b e)
  makes same going =
      let cs = at_last (hears_more (brings_in (Connects true)).server) h.connects in
      let x : h'.connects ≡ cs ++ Some fresh_side ∷ [] = is ∙ ap (λ y. came_connects y b h) same ∙ ap (λ y. came_connects (Connects true) y h) going in
      let kept = same_last (hears_more (brings_in (Connects true)).server) (hears_took (brings_in (Connects true)).server) h.connects place in
      let number : made h'.connects ≡ suc (made h.connects) = (let a = ap made x ∙ joined_made cs (Some fresh_side ∷ []) in let d = kept.made_same in omega (arith, a, d)) in
      let out : server_output (made h'.connects) place ≡ [] = t.later (made h'.connects) (omega (arith, number)) in
      let empty : (ends_met i b e).server.queued ≡ [] = server_queued i b e ∙ ap (drop (took_server i)) (t.free true same going) ∙ drop_nothing (took_server i) in
      let left = ap (λ y. servers_left 1 y place) x ∙ left_answered 1 cs place in
      let before_left = kept.left in
      let added : length (server_output (1 + made cs) place) ≡ 0 = ap length (t.later (1 + made cs) (let d = kept.made_same in omega (arith, d))) in
      let n = ap length empty in
      let was = ap length (t.free true same going) in
      let lost = ends_lost i b e in
      let before = q.lost in
      record {
        client = client;
        server = λ s. empty ∙ sym (ap (drop (last_took h'.connects)) out ∙ drop_nothing (last_took h'.connects));
        lost = omega (arith, left, before_left, added, n, was, lost, before);
      }

  pub queues_came : HoldsQueues h' place (ends_met i b e)
  queues_came = by_input i b refl refl
    where
      by_plain : (x : Input) (y : Bool) → i ≡ x → b ≡ y → IsPlain x y → HoldsQueues h' place (ends_met i b e)
      by_plain x y p q k = plain (subst (λ z. IsPlain z b) (sym p) (subst (λ z. IsPlain x z) (sym q) k))

      by_input : (x : Input) (y : Bool) → i ≡ x → b ≡ y → HoldsQueues h' place (ends_met i b e)
      by_input (Bytes side bytes) y p q = by_plain (Bytes side bytes) y p q tt
      by_input (Ends side) y p q = by_plain (Ends side) y p q tt
      by_input (Resets side) y p q = by_plain (Resets side) y p q tt
      by_input (Takes Client n) y p q = by_plain (Takes Client n) y p q tt
      by_input (Takes Server n) y p q = takes n p
      by_input (Connects true) true p q = by_plain (Connects true) true p q tt
      by_input (Connects true) false p q = makes p q
      by_input (Connects false) true p q = by_plain (Connects false) true p q tt
      by_input (Connects false) false p q = by_plain (Connects false) false p q tt
