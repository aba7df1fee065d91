-- The server connections of a connection: how many were made, and what each of them took.
use Rattle.std.proofs.Common.{◌≡◌, ◌⊎◌, inl, inr, refl, sym, ap, subst, ◌∙◌, ℕ, zero, suc, ◌≤◌, List, [], ◌∷◌, ◌++◌, take, map, Bool, true, false, Option, Some, None, nat_eq, arith, if◌then◌else◌}
use Rattle.std.specs.Prelude.{is_some}
use Rattle.std.proofs.lemmas.List.{map-append}
use Rattle.px_bytes.specs.declared.addr.Side.TheVariants.{Client, Server}
use Rattle.core_events.specs.declared.note.Note.{Note}
use Rattle.core_events.specs.declared.event_kind.EventKind.{EventKind}
use Rattle.core_events.specs.declared.event_kind.EventKind.TheVariants.{Accepts, Comes, Ticks}
use Rattle.core_events.specs.declared.event_kind.EventKind.TheVariants.{Turns, Runs, Marks}
use Rattle.core_events.specs.declared.input.Input.{Input}
use Rattle.core_events.specs.declared.input.Input.TheVariants.{Bytes, Ends, Resets, Connects, Takes}
use Rattle.conn_trace.specs.Heard.{SideHeard, Heard, marks, hears}
use Rattle.conn_trace.specs.Item.{Item, server_output}
use Rattle.proxy_core.specs.Moves.{Leads}
use Rattle.proxy_core.specs.Others.{about}
use Rattle.core_events.specs.Kinds.{kind_of}
use Rattle.record_model.specs.Past.{Past, heard}
use Rattle.proxy_core.specs.Refusal.{refused}
use Rattle.proxy_core.specs.Scheduler.{State}
use Rattle.proxy_core.specs.Servers.{made, makes, servers_made, took_behind, took_of}
use Rattle.run_config.specs.declared.config.Config.{Config}
use Rattle.proxy_core.proofs.Members.{eq_same}
use Rattle.proxy_core.proofs.ServerCounts.{TookBy, come_took, more_of as took_counted}
use Rattle.proxy_core.proofs.SoundPast.{leads_sound, may_come_at}
use Rattle.proxy.specs.Replay.{numbers_to}

-- ---- what each took

-- of the first n, by what was heard of them and what was sent to them
abbrev pub servers_of : List (Option SideHeard) → List Item → ℕ → List (List ℕ)
servers_of connects place n = map (λ k. take (took_of connects k) (server_output k place)) (numbers_to n)

-- those of one more
pub one_more : (cs : List (Option SideHeard)) (place : List Item) (n : ℕ) → servers_of cs place (suc n) ≡ servers_of cs place n ++ take (took_of cs (suc n)) (server_output (suc n) place) ∷ []
one_more cs place n = map-append (λ k. take (took_of cs k) (server_output k place)) (numbers_to n) (suc n ∷ [])

pub same_servers : (cs cs' : List (Option SideHeard)) (place place' : List Item) (n : ℕ) → ((k : ℕ) → k ≤ n → take (took_of cs' k) (server_output k place') ≡ take (took_of cs k) (server_output k place)) → servers_of cs' place' n ≡ servers_of cs place n
same_servers cs cs' place place' zero same = refl
same_servers cs cs' place place' (suc n) same =
    one_more cs' place' n
    ∙ ap (λ l. l ++ take (took_of cs' (suc n)) (server_output (suc n) place') ∷ []) (same_servers cs cs' place place' n (λ k le. same k (omega (arith, le))))
    ∙ ap (λ x. servers_of cs place n ++ x ∷ []) (same (suc n) (omega arith))
    ∙ sym (one_more cs place n)

-- one that wasn't heard of took nothing
pub none_beyond : (k : ℕ) (cs : List (Option SideHeard)) → made cs ≤ k → took_behind k cs ≡ 0
none_beyond k [] le = refl
none_beyond k (None ∷ more) le = none_beyond k more le
none_beyond zero (Some s ∷ more) le = absurd (omega (arith, le))
none_beyond (suc k) (Some s ∷ more) le = none_beyond k more (omega (arith, le))

-- where nothing is taken of a server each took what it took before
pub took_still : (c : ℕ) (h : Heard) (i : Input) (group : List Note) → took_counted i ≡ 0 → (k : ℕ) → took_of (hears c h (Comes c i) group).connects k ≡ took_of h.connects k
took_still c h i group none zero = refl
took_still c h i group none (suc k) = by (come_took c h i group k)
  where
    by : TookBy (took_counted i) k h.connects (hears c h (Comes c i) group).connects → took_behind k (hears c h (Comes c i) group).connects ≡ took_behind k h.connects
    by (inl e) = e
    by (inr (e, f)) = omega (arith, f, none)

-- ---- one that isn't accepted has none

still : (c : ℕ) (h : Heard) (v : EventKind) (group : List Note) → is_some h.accepted ≡ true → is_some (hears c h v group).accepted ≡ true
still c h (Accepts d vs from) group a = by_number (nat_eq d c)
  where
    by_number : (b : Bool) → is_some (if b then record h { accepted = Some (record { virtual = vs; from = from }) } else h).accepted ≡ true
    by_number true = refl
    by_number false = a
still c h (Comes d i) group a = by_number (nat_eq d c) i
  where
    by_number : (b : Bool) (i : Input) → is_some (if b then marks i h else h).accepted ≡ true
    by_number false i = a
    by_number true (Bytes side bytes) = a
    by_number true (Ends side) = a
    by_number true (Connects answer) = a
    by_number true (Resets Client) = a
    by_number true (Resets Server) = a
    by_number true (Takes Client n) = a
    by_number true (Takes Server n) = a
still c h (Ticks moment) group a = a
still c h Turns group a = a
still c h Runs group a = a
still c h (Marks pool member up) group a = a

-- an event of a connection that isn't accepted is no answer
makes_none : (C : Config) (past : Past) (s : State) (c : ℕ) (v : EventKind) → Leads C past s → refused C past s v ≡ None → (is_some (heard c past).accepted ≡ true) ⊎ (makes c v ≡ 0)
makes_none C past s c (Comes d (Connects true)) leads fine = by_number (nat_eq d c) refl
  where
    answers : Bool → ℕ
    answers b = if b then 1 else 0

    by_number : (b : Bool) → nat_eq d c ≡ b → (is_some (heard c past).accepted ≡ true) ⊎ (answers b ≡ 0)
    by_number true e =
        let a = (may_come_at C past s d (Connects true) ((leads_sound C past s leads).each d) fine).accepted in
        inl (subst (λ n. is_some (heard n past).accepted ≡ true) (eq_same d c e) a)
    by_number false e = inr refl
makes_none C past s c (Comes d (Connects false)) leads fine = inr refl
makes_none C past s c (Comes d (Bytes side bytes)) leads fine = inr refl
makes_none C past s c (Comes d (Ends side)) leads fine = inr refl
makes_none C past s c (Comes d (Resets side)) leads fine = inr refl
makes_none C past s c (Comes d (Takes side n)) leads fine = inr refl
makes_none C past s c (Accepts d vs from) leads fine = inr refl
makes_none C past s c (Ticks moment) leads fine = inr refl
makes_none C past s c Turns leads fine = inr refl
makes_none C past s c Runs leads fine = inr refl
makes_none C past s c (Marks pool member up) leads fine = inr refl

made_accepted : (C : Config) (past : Past) (s : State) (c : ℕ) → Leads C past s → (is_some (heard c past).accepted ≡ true) ⊎ (servers_made c past ≡ 0)
made_accepted C [] s c leads = inr refl
made_accepted C (x ∷ past) s c (before, leads, fine, moves) =
    by_past (made_accepted C past before c leads) (makes_none C past before c (kind_of x.event) leads fine)
  where
    by_past : (is_some (heard c past).accepted ≡ true) ⊎ (servers_made c past ≡ 0) → (is_some (heard c past).accepted ≡ true) ⊎ (makes c (kind_of x.event) ≡ 0)
        → (is_some (heard c (x ∷ past)).accepted ≡ true) ⊎ (servers_made c (x ∷ past) ≡ 0)
    by_past (inl a) k = inl (still c (heard c past) (kind_of x.event) x.group a)
    by_past k (inl a) = inl (still c (heard c past) (kind_of x.event) x.group a)
    by_past (inr m) (inr k) = inr (omega (arith, m, k))

pub none_made : (C : Config) (past : Past) (s : State) (c : ℕ) → Leads C past s → is_some (heard c past).accepted ≡ false → servers_made c past ≡ 0
none_made C past s c leads none = by_past (made_accepted C past s c leads)
  where
    by_past : (is_some (heard c past).accepted ≡ true) ⊎ (servers_made c past ≡ 0) → servers_made c past ≡ 0
    by_past (inl a) = absurd (let k : true ≡ false = sym a ∙ none in cc)
    by_past (inr m) = m

-- another connection's event makes none
pub other_makes : (c : ℕ) (v : EventKind) (s : State) → nat_eq (about v s) c ≡ false → makes c v ≡ 0
other_makes c (Comes d (Connects true)) s e = rw e refl
other_makes c (Comes d (Connects false)) s e = refl
other_makes c (Comes d (Bytes side bytes)) s e = refl
other_makes c (Comes d (Ends side)) s e = refl
other_makes c (Comes d (Resets side)) s e = refl
other_makes c (Comes d (Takes side n)) s e = refl
other_makes c (Accepts d vs from) s e = refl
other_makes c (Ticks moment) s e = refl
other_makes c Turns s e = refl
other_makes c Runs s e = refl
other_makes c (Marks pool member up) s e = refl
