-- What something that comes of a connection makes of what was told of it from outside.
use Rattle.std.proofs.Common.{◌≡◌, refl, sym, ap, ◌∙◌, ℕ, ◌+◌, List, [], ◌∷◌, ◌++◌, append-nil, map, drop, Bool, true, false, ◌||◌, Option, Some, None, option_map, if◌then◌else◌, arith}
use Rattle.px_bytes.specs.declared.addr.Side.TheVariants.{Client, Server}
use Rattle.px_bytes.specs.declared.fault.Reply.{Reply}
use Rattle.conn_trace.specs.Further.{Coming, Further, nothing_comes, nothing_further}
use Rattle.core_events.specs.declared.event_kind.EventKind.{EventKind}
use Rattle.core_events.specs.declared.event_kind.EventKind.TheVariants.{Comes}
use Rattle.core_events.specs.declared.input.Input.{Input}
use Rattle.core_events.specs.declared.input.Input.TheVariants.{Bytes, Ends, Resets, Connects, Takes}
use Rattle.conn_trace.specs.Heard.{SideHeard, fresh_side, Heard, taken_by, side_taken}
use Rattle.conn_trace.specs.Heard.{servers_taken, taken, hears_by, hears_more, has_made, at_last, unless_late}
use Rattle.conn_trace.specs.Heard.{answer, as_answer, Brought, brought_nothing, brings_in}
use Rattle.conn_trace.specs.Heard.{event_brings, marks, event_marks, brought, hears_event, hears}
use Rattle.conn_trace.specs.Heard.{further_of}
use Rattle.conn_trace.specs.HeardLaws.{TellsNothing}
use Rattle.conn_trace.specs.Item.{Choice}
use Rattle.conn_trace.specs.State.{Cut}
use Rattle.conn_trace.specs.Tellings.{notes_about, replies_told, choices_told, cut_told, finish_told, failure_told}
use Rattle.core_events.specs.declared.note.Note.{Note}
use Rattle.conn.specs.Calls.{answered_by, more_at_last, none_at_last, unless_finished}
use Rattle.conn.specs.Ends.{has_stream, heard_by, heard_end}
use Rattle.conn.specs.Holds.{Around}
use Rattle.conn.specs.declared.ends.ConnectionEnd.{ConnectionEnd}
use Rattle.conn.specs.declared.ends.Ends.{Ends as BothEnds}
use Rattle.proxy_core.specs.Live.{ends_met, further_in, met_by}
use Rattle.proxy_core.specs.Represents.{around}
use Rattle.proxy_core.specs.Scheduler.{last_took}
use Rattle.proxy_core.proofs.Members.{eq_self}

-- ---- the last server connection

pub none_made : (cs : List (Option SideHeard)) → has_made cs ≡ false → servers_taken cs ≡ []
none_made [] e = refl
none_made (None ∷ more) e = none_made more e
none_made (Some s ∷ more) e = cc

record Made (cs : List (Option SideHeard)) : Type 0 where
  first : Option ℕ
  others : List (Option ℕ)
  is : servers_taken cs ≡ first ∷ others

some_made : (cs : List (Option SideHeard)) → has_made cs ≡ true → Made cs
some_made [] e = cc
some_made (None ∷ more) e = let k = some_made more e in record { first = k.first; others = k.others; is = k.is }
some_made (Some s ∷ more) e = record { first = side_taken s; others = servers_taken more; is = refl }

-- what changes the last of what was taken changes it there
module _ (f : SideHeard → SideHeard) (g : Option ℕ → Option ℕ) (last : List (Option ℕ) → List (Option ℕ)) (same : (s : SideHeard) → side_taken (f s) ≡ g (side_taken s))
    (at_none : last [] ≡ []) (at_one : (t : Option ℕ) → last (t ∷ []) ≡ g t ∷ []) (at_more : (t u : Option ℕ) (more : List (Option ℕ)) → last (t ∷ (u ∷ more)) ≡ t ∷ last (u ∷ more)) where
  taken_last : (cs : List (Option SideHeard)) → servers_taken (at_last f cs) ≡ last (servers_taken cs)
  taken_last [] = sym at_none
  taken_last (None ∷ more) = taken_last more
  taken_last (Some s ∷ more) = by_made (has_made more) refl (taken_last more)
    where
      by_made : (b : Bool) → has_made more ≡ b → servers_taken (at_last f more) ≡ last (servers_taken more) → side_taken (if b then s else f s) ∷ servers_taken (at_last f more) ≡ last (side_taken s ∷ servers_taken more)
      by_made true e h =
          let k = some_made more e in
          ap (λ x. side_taken s ∷ x) (h ∙ ap last k.is) ∙ sym (ap (λ x. last (side_taken s ∷ x)) k.is ∙ at_more (side_taken s) k.first k.others)
      by_made false e h =
          let n = none_made more e in
          ap (λ x. side_taken (f s) ∷ x) (h ∙ ap last n ∙ at_none) ∙ ap (λ t. t ∷ []) (same s) ∙ sym (ap (λ x. last (side_taken s ∷ x)) n ∙ at_one (side_taken s))

pub made_last : (f : SideHeard → SideHeard) (cs : List (Option SideHeard)) → has_made (at_last f cs) ≡ has_made cs
made_last f [] = refl
made_last f (None ∷ more) = made_last f more
made_last f (Some s ∷ more) = refl

pub taken_keeps : (f : SideHeard → SideHeard) → ((s : SideHeard) → side_taken (f s) ≡ side_taken s) → (cs : List (Option SideHeard)) → servers_taken (at_last f cs) ≡ servers_taken cs
taken_keeps f same [] = refl
taken_keeps f same (None ∷ more) = taken_keeps f same more
taken_keeps f same (Some s ∷ more) = by_made (has_made more) ∙ ap (λ x. side_taken s ∷ x) (taken_keeps f same more)
  where
    by_made : (b : Bool) → side_taken (if b then s else f s) ∷ servers_taken (at_last f more) ≡ side_taken s ∷ servers_taken (at_last f more)
    by_made true = refl
    by_made false = ap (λ t. t ∷ servers_taken (at_last f more)) (same s)

-- what the last one took
took_by_made : (f : SideHeard → SideHeard) (s : SideHeard) (more : List (Option SideHeard)) → last_took (at_last f (Some s ∷ more)) ≡ (if has_made more then last_took (at_last f more) else (f s).took)
took_by_made f s more = ap (λ b. if b then last_took (at_last f more) else (if has_made more then s else f s).took) (made_last f more) ∙ by_made (has_made more)
  where
    by_made : (b : Bool) → (if b then last_took (at_last f more) else (if b then s else f s).took) ≡ (if b then last_took (at_last f more) else (f s).took)
    by_made true = refl
    by_made false = refl

pub last_keeps : (f : SideHeard → SideHeard) → ((s : SideHeard) → (f s).took ≡ s.took) → (cs : List (Option SideHeard)) → last_took (at_last f cs) ≡ last_took cs
last_keeps f same [] = refl
last_keeps f same (None ∷ more) = last_keeps f same more
last_keeps f same (Some s ∷ more) = took_by_made f s more ∙ ap (λ n. if has_made more then n else (f s).took) (last_keeps f same more) ∙ ap (λ n. if has_made more then last_took more else n) (same s)

pub last_more : (f : SideHeard → SideHeard) (n : ℕ) → ((s : SideHeard) → (f s).took ≡ s.took + n) → (cs : List (Option SideHeard)) → has_made cs ≡ true → last_took (at_last f cs) ≡ last_took cs + n
last_more f n same [] e = cc
last_more f n same (None ∷ more) e = last_more f n same more e
last_more f n same (Some s ∷ more) e = took_by_made f s more ∙ by_made (has_made more) refl (last_more f n same more)
  where
    by_made : (b : Bool) → has_made more ≡ b → (has_made more ≡ true → last_took (at_last f more) ≡ last_took more + n) → (if b then last_took (at_last f more) else (f s).took) ≡ (if b then last_took more else s.took) + n
    by_made true e h = h e
    by_made false e h = same s

-- where none was made nothing was taken
pub none_took : (cs : List (Option SideHeard)) → has_made cs ≡ false → last_took cs ≡ 0
none_took [] e = refl
none_took (None ∷ more) e = none_took more e
none_took (Some s ∷ more) e = cc

unmade : (f : SideHeard → SideHeard) (cs : List (Option SideHeard)) → has_made cs ≡ false → last_took (at_last f cs) ≡ 0
unmade f cs e = none_took (at_last f cs) (made_last f cs ∙ e)

-- one more answer
pub taken_answered : (cs : List (Option SideHeard)) → servers_taken (cs ++ Some fresh_side ∷ []) ≡ servers_taken cs ++ Some 0 ∷ []
taken_answered [] = refl
taken_answered (None ∷ more) = taken_answered more
taken_answered (Some s ∷ more) = ap (λ x. side_taken s ∷ x) (taken_answered more)

pub taken_refused : (cs : List (Option SideHeard)) → servers_taken (cs ++ None ∷ []) ≡ servers_taken cs
taken_refused [] = refl
taken_refused (None ∷ more) = taken_refused more
taken_refused (Some s ∷ more) = ap (λ x. side_taken s ∷ x) (taken_refused more)

made_answered : (cs : List (Option SideHeard)) → has_made (cs ++ Some fresh_side ∷ []) ≡ true
made_answered [] = refl
made_answered (None ∷ more) = made_answered more
made_answered (Some s ∷ more) = refl

made_refused : (cs : List (Option SideHeard)) → has_made (cs ++ None ∷ []) ≡ has_made cs
made_refused [] = refl
made_refused (None ∷ more) = made_refused more
made_refused (Some s ∷ more) = refl

pub took_answered : (cs : List (Option SideHeard)) → last_took (cs ++ Some fresh_side ∷ []) ≡ 0
took_answered [] = refl
took_answered (None ∷ more) = took_answered more
took_answered (Some s ∷ more) = ap (λ b. if b then last_took (more ++ Some fresh_side ∷ []) else s.took) (made_answered more) ∙ took_answered more

pub took_refused : (cs : List (Option SideHeard)) → last_took (cs ++ None ∷ []) ≡ last_took cs
took_refused [] = refl
took_refused (None ∷ more) = took_refused more
took_refused (Some s ∷ more) = ap (λ b. if b then last_took (more ++ None ∷ []) else s.took) (made_refused more) ∙ ap (λ n. if has_made more then n else s.took) (took_refused more)

-- ---- what is told from outside

abbrev told_by : Option ℕ → List (Option ℕ) → ℕ → ℕ → Around
told_by client servers counted counted_server = record { took = record { client = client; servers = servers }; counted = counted; counted_server = counted_server }

-- bytes and an end change no count
hears_taken : (c : Coming) (s : SideHeard) → side_taken (hears_more c s) ≡ side_taken s
hears_taken c s = by_end s.ended
  where
    by_end : (b : Bool) → side_taken (hears_by b c s) ≡ side_taken s
    by_end true = refl
    by_end false = refl

pub hears_took : (c : Coming) (s : SideHeard) → (hears_more c s).took ≡ s.took
hears_took c s = by_end s.ended
  where
    by_end : (b : Bool) → (hears_by b c s).took ≡ s.took
    by_end true = refl
    by_end false = refl

abbrev pub heard_connects : Brought → Heard → List (Option SideHeard)
heard_connects b h = at_last (hears_more b.server) h.connects ++ b.connects

-- what is brought, beside answers, changes nothing of it
around_brought : (b : Brought) (h : Heard) → b.connects ≡ []
    → told_by (side_taken (hears_more b.client h.client)) (servers_taken (heard_connects b h)) (hears_more b.client h.client).took (last_took (heard_connects b h)) ≡ around h
around_brought b h none =
    let cs = at_last (hears_more b.server) h.connects in
    let all : heard_connects b h ≡ cs = ap (λ x. cs ++ x) none ∙ append-nil cs in
    ap (λ x. told_by x (servers_taken (heard_connects b h)) (hears_more b.client h.client).took (last_took (heard_connects b h))) (hears_taken b.client h.client)
    ∙ ap (λ x. told_by (side_taken h.client) x (hears_more b.client h.client).took (last_took (heard_connects b h))) (ap servers_taken all ∙ taken_keeps (hears_more b.server) (hears_taken b.server) h.connects)
    ∙ ap (λ x. told_by (side_taken h.client) (servers_taken h.connects) x (last_took (heard_connects b h))) (hears_took b.client h.client)
    ∙ ap (λ x. told_by (side_taken h.client) (servers_taken h.connects) h.client.took x) (ap last_took all ∙ last_keeps (hears_more b.server) (hears_took b.server) h.connects)

-- an answer counts anew
around_answered : (made : Bool) (h : Heard)
    → told_by (side_taken (hears_more nothing_comes h.client)) (servers_taken (at_last (hears_more nothing_comes) h.connects ++ answer made ∷ [])) (hears_more nothing_comes h.client).took (last_took (at_last (hears_more nothing_comes) h.connects ++ answer made ∷ []))
    ≡ answered_by made (around h)
around_answered made h = by_made made
  where
    cs : List (Option SideHeard)
    cs = at_last (hears_more nothing_comes) h.connects

    all : (servers : List (Option ℕ)) (n : ℕ) (o : Option SideHeard) → servers_taken (cs ++ o ∷ []) ≡ servers → last_took (cs ++ o ∷ []) ≡ n
        → told_by (side_taken (hears_more nothing_comes h.client)) (servers_taken (cs ++ o ∷ [])) (hears_more nothing_comes h.client).took (last_took (cs ++ o ∷ [])) ≡ told_by (side_taken h.client) servers h.client.took n
    all servers n o e f =
        ap (λ x. told_by x (servers_taken (cs ++ o ∷ [])) (hears_more nothing_comes h.client).took (last_took (cs ++ o ∷ []))) (hears_taken nothing_comes h.client)
        ∙ ap (λ x. told_by (side_taken h.client) x (hears_more nothing_comes h.client).took (last_took (cs ++ o ∷ []))) e
        ∙ ap (λ x. told_by (side_taken h.client) servers x (last_took (cs ++ o ∷ []))) (hears_took nothing_comes h.client)
        ∙ ap (λ x. told_by (side_taken h.client) servers h.client.took x) f

    by_made : (b : Bool) → told_by (side_taken (hears_more nothing_comes h.client)) (servers_taken (cs ++ answer b ∷ [])) (hears_more nothing_comes h.client).took (last_took (cs ++ answer b ∷ [])) ≡ answered_by b (around h)
    by_made true = all (servers_taken h.connects ++ Some 0 ∷ []) 0 (Some fresh_side) (taken_answered cs ∙ ap (λ x. x ++ Some 0 ∷ []) (taken_keeps (hears_more nothing_comes) (hears_taken nothing_comes) h.connects)) (took_answered cs)
    by_made false = all (servers_taken h.connects) (last_took h.connects) None (taken_refused cs ∙ taken_keeps (hears_more nothing_comes) (hears_taken nothing_comes) h.connects) (took_refused cs ∙ last_keeps (hears_more nothing_comes) (hears_took nothing_comes) h.connects)

-- what a server takes is taken by one that was made, and was heard of
abbrev pub TakesThere : Input → Heard → Type 0
TakesThere (Takes Server n) h = (has_made h.connects ≡ false → n ≡ 0) × (h.late ≡ true → n ≡ 0)
TakesThere other h = Unit {0}

-- a reset of a server connection that was made behind the finish isn't of the one before
abbrev pub met_at : (late : Bool) → Input → (finished : Bool) → Around → Around
met_at late (Resets Server) finished a = if late then a else met_by (Resets Server) finished a
met_at late other finished a = met_by other finished a

none_more_at_last : (ts : List (Option ℕ)) → more_at_last 0 ts ≡ ts
none_more_at_last [] = refl
none_more_at_last (t ∷ []) = ap (λ x. x ∷ []) (by_taken t)
  where
    by_taken : (t : Option ℕ) → option_map (λ k. k + 0) t ≡ t
    by_taken None = refl
    by_taken (Some k) = ap Some (let e : k + 0 ≡ k = omega arith in e)
none_more_at_last (t ∷ (u ∷ more)) = ap (λ x. t ∷ x) (none_more_at_last (u ∷ more))

counted_more : (b : Bool) (k n : ℕ) → taken_by b (k + n) ≡ option_map (λ x. x + n) (taken_by b k)
counted_more true k n = refl
counted_more false k n = refl

abbrev reset_side : SideHeard → SideHeard
reset_side s = record s { reset = true }

abbrev took_side : ℕ → SideHeard → SideHeard
took_side n s = record s { took = s.took + n }

-- a reset and a took-count
around_marked : (input : Input) (h : Heard) → TakesThere input h → around (marks input h) ≡ met_at h.late input true (around h)
around_marked (Bytes side bytes) h t = refl
around_marked (Ends side) h t = refl
around_marked (Connects made) h t = refl
around_marked (Resets Client) h t = refl
around_marked (Resets Server) h t = by_late h.late
  where
    by_late : (b : Bool) → told_by (side_taken h.client) (servers_taken (unless_late b reset_side h.connects)) h.client.took (last_took (unless_late b reset_side h.connects)) ≡ met_at b (Resets Server) true (around h)
    by_late true = refl
    by_late false =
        ap (λ x. told_by (side_taken h.client) x h.client.took (last_took (at_last reset_side h.connects))) (taken_last reset_side (λ t. None) none_at_last (λ s. refl) refl (λ t. refl) (λ t u more. refl) h.connects)
        ∙ ap (λ x. told_by (side_taken h.client) (none_at_last (servers_taken h.connects)) h.client.took x) (last_keeps reset_side (λ s. refl) h.connects)
around_marked (Takes Client n) h t = ap (λ x. told_by x (servers_taken h.connects) (h.client.took + n) (last_took h.connects)) (counted_more h.client.reset h.client.took n)
around_marked (Takes Server n) h t = by_late h.late refl
  where
    server_took : last_took (at_last (took_side n) h.connects) ≡ last_took h.connects + n
    server_took = by_made (has_made h.connects) refl
      where
        by_made : (b : Bool) → has_made h.connects ≡ b → last_took (at_last (took_side n) h.connects) ≡ last_took h.connects + n
        by_made true e = last_more (took_side n) n (λ s. refl) h.connects e
        by_made false e = let z = t.0 e in let u = unmade (took_side n) h.connects e in let v = none_took h.connects e in omega (arith, z, u, v)

    nothing : n ≡ 0 → around h ≡ told_by (side_taken h.client) (more_at_last n (servers_taken h.connects)) h.client.took (last_took h.connects + n)
    nothing z =
        ap (λ x. told_by (side_taken h.client) x h.client.took (last_took h.connects)) (sym (ap (λ k. more_at_last k (servers_taken h.connects)) z ∙ none_more_at_last (servers_taken h.connects)))
        ∙ ap (told_by (side_taken h.client) (more_at_last n (servers_taken h.connects)) h.client.took) (let k : last_took h.connects ≡ last_took h.connects + n = omega (arith, z) in k)

    by_late : (b : Bool) → h.late ≡ b
        → told_by (side_taken h.client) (servers_taken (unless_late b (took_side n) h.connects)) h.client.took (last_took (unless_late b (took_side n) h.connects))
        ≡ told_by (side_taken h.client) (more_at_last n (servers_taken h.connects)) h.client.took (last_took h.connects + n)
    by_late true e = nothing (t.1 e)
    by_late false e =
        ap (λ x. told_by (side_taken h.client) x h.client.took (last_took (at_last (took_side n) h.connects))) (taken_last (took_side n) (option_map (λ k. k + n)) (more_at_last n) (λ s. counted_more s.reset s.took n) refl (λ t. refl) (λ t u more. refl) h.connects)
        ∙ ap (λ x. told_by (side_taken h.client) (more_at_last n (servers_taken h.connects)) h.client.took x) server_took

or_false : (b : Bool) → (b || false) ≡ b
or_false true = refl
or_false false = refl

-- what it brings, where its notes don't finish it
pub brought_is : (c : ℕ) (h : Heard) (input : Input) (group : List Note) → finish_told (notes_about c group) ≡ false → brought c h (Comes c input) group ≡ (if h.finished then brought_nothing else brings_in input)
brought_is c h input group none =
    ap (λ b. if h.finished || b then brought_nothing else event_brings c (Comes c input)) none ∙ ap (λ b. if b then brought_nothing else event_brings c (Comes c input)) (or_false h.finished)
    ∙ ap (λ b. if h.finished then brought_nothing else (if b then brings_in input else brought_nothing)) (eq_self c)

pub marked_is : (c : ℕ) (h : Heard) (input : Input) → event_marks c (Comes c input) h ≡ marks input h
marked_is c h input = ap (λ b. if b then marks input h else h) (eq_self c)

abbrev around_after : Brought → Heard → Around
around_after b h = told_by (side_taken (hears_more b.client h.client)) (servers_taken (heard_connects b h)) (hears_more b.client h.client).took (last_took (heard_connects b h))

pub around_met : (c : ℕ) (h : Heard) (input : Input) (group : List Note) → finish_told (notes_about c group) ≡ false → TakesThere input h → around (hears c h (Comes c input) group) ≡ met_at h.late input h.finished (around h)
around_met c h input group none there =
    ap (λ b. around_after b (event_marks c (Comes c input) h)) (brought_is c h input group none) ∙ ap (around_after (if h.finished then brought_nothing else brings_in input)) (marked_is c h input)
    ∙ by_finish h.finished input there
  where
    by_finish : (b : Bool) (i : Input) → TakesThere i h → around_after (if b then brought_nothing else brings_in i) (marks i h) ≡ met_at h.late i b (around h)
    by_finish true i t = around_brought brought_nothing (marks i h) refl ∙ around_marked i h t
    by_finish false (Bytes Client bytes) t = around_brought (brings_in (Bytes Client bytes)) h refl
    by_finish false (Bytes Server bytes) t = around_brought (brings_in (Bytes Server bytes)) h refl
    by_finish false (Ends Client) t = around_brought (brings_in (Ends Client)) h refl
    by_finish false (Ends Server) t = around_brought (brings_in (Ends Server)) h refl
    by_finish false (Resets Client) t = around_brought brought_nothing (marks (Resets Client) h) refl ∙ around_marked (Resets Client) h t
    by_finish false (Resets Server) t = around_brought brought_nothing (marks (Resets Server) h) refl ∙ around_marked (Resets Server) h t
    by_finish false (Takes side n) t = around_brought brought_nothing (marks (Takes side n) h) refl ∙ around_marked (Takes side n) h t
    by_finish false (Connects made) t = around_answered made h

-- where they finish it nothing is brought
pub around_last : (c : ℕ) (h : Heard) (input : Input) (group : List Note) → finish_told (notes_about c group) ≡ true → TakesThere input h → around (hears c h (Comes c input) group) ≡ met_at h.late input true (around h)
around_last c h input group last there =
    let is : brought c h (Comes c input) group ≡ brought_nothing = ap (λ b. if h.finished || b then brought_nothing else event_brings c (Comes c input)) last ∙ by_true h.finished in
    ap (λ b. around_after b (event_marks c (Comes c input) h)) is ∙ ap (around_after brought_nothing) (marked_is c h input) ∙ around_brought brought_nothing (marks input h) refl ∙ around_marked input h there
  where
    by_true : (b : Bool) → (if b || true then brought_nothing else event_brings c (Comes c input)) ≡ brought_nothing
    by_true true = refl
    by_true false = refl

-- ---- what it brings

abbrev adds : Brought → List Reply → List Choice → Option Cut → Further
adds b replies choices cut = record { client = b.client; server = b.server; connects = map as_answer b.connects; replies = replies; choices = choices; cut = cut }

pub come_further : (c : ℕ) (h : Heard) (input : Input) (group : List Note) → TellsNothing c group → finish_told (notes_about c group) ≡ false → further_of c h (Comes c input) group ≡ unless_finished h.finished (further_in input)
come_further c h input group quiet none =
    let v = Comes c input in
    let t = notes_about c group in
    let k = cut_told (taken (hears_event c h v group)) t in
    let b = if h.finished then brought_nothing else brings_in input in
    ap (λ b. adds b (replies_told t) (choices_told t) k) (brought_is c h input group none)
    ∙ ap (λ r. adds b r (choices_told t) k) quiet.replies
    ∙ ap (λ i. adds b [] i k) quiet.choices
    ∙ ap (λ x. adds b [] [] x) (quiet.cut (taken (hears_event c h v group)))
    ∙ by_finish h.finished
  where
    by_finish : (b : Bool) → adds (if b then brought_nothing else brings_in input) [] [] None ≡ unless_finished b (further_in input)
    by_finish true = refl
    by_finish false = refl

-- where it finishes with them they bring nothing
pub last_further : (c : ℕ) (h : Heard) (v : EventKind) (group : List Note) → TellsNothing c group → finish_told (notes_about c group) ≡ true → further_of c h v group ≡ nothing_further
last_further c h v group quiet last =
    let t = notes_about c group in
    let k = cut_told (taken (hears_event c h v group)) t in
    let is : brought c h v group ≡ brought_nothing = ap (λ b. if h.finished || b then brought_nothing else event_brings c v) last ∙ by_true h.finished in
    ap (λ b. adds b (replies_told t) (choices_told t) k) is
    ∙ ap (λ r. adds brought_nothing r (choices_told t) k) quiet.replies
    ∙ ap (λ i. adds brought_nothing [] i k) quiet.choices
    ∙ ap (λ x. adds brought_nothing [] [] x) (quiet.cut (taken (hears_event c h v group)))
  where
    by_true : (b : Bool) → (if b || true then brought_nothing else event_brings c v) ≡ brought_nothing
    by_true true = refl
    by_true false = refl

-- ---- what else it tells

record Kept (h k : Heard) : Type 0 where
  accepted : k.accepted ≡ h.accepted
  finished : k.finished ≡ h.finished
  failed : k.failed ≡ h.failed
  cut : k.cut ≡ h.cut

marks_keep : (i : Input) (h : Heard) → Kept h (marks i h)
marks_keep (Bytes side bytes) h = record { accepted = refl; finished = refl; failed = refl; cut = refl }
marks_keep (Ends side) h = record { accepted = refl; finished = refl; failed = refl; cut = refl }
marks_keep (Resets Client) h = record { accepted = refl; finished = refl; failed = refl; cut = refl }
marks_keep (Resets Server) h = record { accepted = refl; finished = refl; failed = refl; cut = refl }
marks_keep (Takes Client n) h = record { accepted = refl; finished = refl; failed = refl; cut = refl }
marks_keep (Takes Server n) h = record { accepted = refl; finished = refl; failed = refl; cut = refl }
marks_keep (Connects made) h = record { accepted = refl; finished = refl; failed = refl; cut = refl }

-- its accept stays, and it has finished, or failed, where its notes say so or it had
pub record ComeTold (c : ℕ) (h : Heard) (input : Input) (group : List Note) : Type 0 where
  pub accepted : (hears c h (Comes c input) group).accepted ≡ h.accepted
  pub finished : (hears c h (Comes c input) group).finished ≡ (h.finished || finish_told (notes_about c group))
  pub failed : (hears c h (Comes c input) group).failed ≡ (h.failed || failure_told (notes_about c group))

pub come_told : (c : ℕ) (h : Heard) (input : Input) (group : List Note) → ComeTold c h input group
come_told c h input group =
    let is = marked_is c h input in
    let k = marks_keep input h in
    record {
      accepted = ap (λ x. x.accepted) is ∙ k.accepted;
      finished = ap (λ x. x.finished || finish_told (notes_about c group)) is ∙ ap (λ b. b || finish_told (notes_about c group)) k.finished;
      failed = ap (λ x. x.failed || failure_told (notes_about c group)) is ∙ ap (λ b. b || failure_told (notes_about c group)) k.failed;
    }

-- ---- what waits for the sides

-- how many bytes more a side took by it
abbrev pub took_client : Input → ℕ
took_client (Takes Client n) = n
took_client other = 0

abbrev pub took_server : Input → ℕ
took_server (Takes Server n) = n
took_server other = 0

pub client_counted : (late : Bool) (i : Input) (finished : Bool) (a : Around) → (met_at late i finished a).counted ≡ a.counted + took_client i
client_counted late (Bytes side bytes) f a = omega arith
client_counted late (Ends side) f a = omega arith
client_counted late (Resets Client) f a = omega arith
client_counted true (Resets Server) f a = omega arith
client_counted false (Resets Server) f a = omega arith
client_counted late (Takes Client n) f a = refl
client_counted late (Takes Server n) f a = omega arith
client_counted late (Connects made) true a = omega arith
client_counted late (Connects true) false a = omega arith
client_counted late (Connects false) false a = omega arith

pub heard_queued : (b : Bool) (c : Coming) (e : ConnectionEnd) → (heard_by b c e).queued ≡ e.queued
heard_queued true c e = refl
heard_queued false c e = refl

pub client_queued : (i : Input) (finished : Bool) (e : BothEnds) → (ends_met i finished e).client.queued ≡ drop (took_client i) e.client.queued
client_queued (Bytes Client bytes) true e = refl
client_queued (Bytes Client bytes) false e = heard_queued e.client.ended _ e.client
client_queued (Bytes Server bytes) true e = refl
client_queued (Bytes Server bytes) false e = by_stream (has_stream e.link)
  where
    by_stream : (b : Bool) → (if b then record e { server = heard_end (record { bytes = bytes; ended = false }) e.server } else e).client.queued ≡ e.client.queued
    by_stream true = refl
    by_stream false = refl
client_queued (Ends Client) true e = refl
client_queued (Ends Client) false e = heard_queued e.client.ended _ e.client
client_queued (Ends Server) true e = refl
client_queued (Ends Server) false e = by_stream (has_stream e.link)
  where
    by_stream : (b : Bool) → (if b then record e { server = heard_end (record { bytes = []; ended = true }) e.server } else e).client.queued ≡ e.client.queued
    by_stream true = refl
    by_stream false = refl
client_queued (Resets Client) f e = refl
client_queued (Resets Server) f e = refl
client_queued (Takes Client n) f e = refl
client_queued (Takes Server n) f e = refl
client_queued (Connects made) f e = refl

pub server_queued : (i : Input) (finished : Bool) (e : BothEnds) → (ends_met i finished e).server.queued ≡ drop (took_server i) e.server.queued
server_queued (Bytes Client bytes) true e = refl
server_queued (Bytes Client bytes) false e = refl
server_queued (Bytes Server bytes) true e = refl
server_queued (Bytes Server bytes) false e = by_stream (has_stream e.link)
  where
    by_stream : (b : Bool) → (if b then record e { server = heard_end (record { bytes = bytes; ended = false }) e.server } else e).server.queued ≡ e.server.queued
    by_stream true = heard_queued e.server.ended _ e.server
    by_stream false = refl
server_queued (Ends Client) true e = refl
server_queued (Ends Client) false e = refl
server_queued (Ends Server) true e = refl
server_queued (Ends Server) false e = by_stream (has_stream e.link)
  where
    by_stream : (b : Bool) → (if b then record e { server = heard_end (record { bytes = []; ended = true }) e.server } else e).server.queued ≡ e.server.queued
    by_stream true = heard_queued e.server.ended _ e.server
    by_stream false = refl
server_queued (Resets Client) f e = refl
server_queued (Resets Server) f e = by_stream (has_stream e.link)
  where
    by_stream : (b : Bool) → (if b then record e.server { reset = true } else e.server).queued ≡ e.server.queued
    by_stream true = refl
    by_stream false = refl
server_queued (Takes Client n) f e = refl
server_queued (Takes Server n) f e = refl
server_queued (Connects made) f e = refl

pub ends_lost : (i : Input) (finished : Bool) (e : BothEnds) → (ends_met i finished e).lost ≡ e.lost
ends_lost (Bytes Client bytes) true e = refl
ends_lost (Bytes Client bytes) false e = refl
ends_lost (Bytes Server bytes) true e = refl
ends_lost (Bytes Server bytes) false e = by_stream (has_stream e.link)
  where
    by_stream : (b : Bool) → (if b then record e { server = heard_end (record { bytes = bytes; ended = false }) e.server } else e).lost ≡ e.lost
    by_stream true = refl
    by_stream false = refl
ends_lost (Ends Client) true e = refl
ends_lost (Ends Client) false e = refl
ends_lost (Ends Server) true e = refl
ends_lost (Ends Server) false e = by_stream (has_stream e.link)
  where
    by_stream : (b : Bool) → (if b then record e { server = heard_end (record { bytes = []; ended = true }) e.server } else e).lost ≡ e.lost
    by_stream true = refl
    by_stream false = refl
ends_lost (Resets Client) f e = refl
ends_lost (Resets Server) f e = refl
ends_lost (Takes Client n) f e = refl
ends_lost (Takes Server n) f e = refl
ends_lost (Connects made) f e = refl

-- an event that neither brings nor marks anything leaves what was told
pub around_quiet : (c : ℕ) (h : Heard) (v : EventKind) (group : List Note) → event_marks c v h ≡ h → event_brings c v ≡ brought_nothing → around (hears c h v group) ≡ around h
around_quiet c h v group unmarked none = ap (around_after (brought c h v group)) unmarked ∙ ap (λ b. around_after b h) (by_finish (h.finished || finish_told (notes_about c group))) ∙ around_brought brought_nothing h refl
  where
    by_finish : (b : Bool) → (if b then brought_nothing else event_brings c v) ≡ brought_nothing
    by_finish true = refl
    by_finish false = none
