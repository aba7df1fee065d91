-- A net in memory, by the scripts of its links.
use Rattle.std.specs.Prelude.{◌≡◌, ℕ, ◌+◌, ◌-◌, ◌^◌, ◌<◌, ◌==◌, List, [], ◌∷◌, ◌++◌, length, map}
use Rattle.std.specs.Prelude.{drop, nat_lt, nat_eq, Result, Ok, Err, Option, Some, None, is_some}
use Rattle.std.specs.Prelude.{option_map, Bool, true, false, not, ◌&&◌, ◌||◌, if◌then◌else◌}
use Rattle.std.specs.Prelude.{slice_get, slice_set, MatchOption}
use Rattle.std.specs.Option.{option_eq}
use Rattle.std.specs.List.{list_any}
use Rattle.px_bytes.specs.declared.addr.Addr.{Addr}
use Rattle.px_outside.specs.declared.failed.Failed.{Failed}
use Rattle.px_outside.specs.declared.failed.Failed.TheVariants as failed
use Rattle.px_outside.specs.declared.answers.ReadyAt.{ReadyAt}
use Rattle.px_outside.specs.declared.answers.ReadyAt.TheVariants as ready
use Rattle.px_outside.specs.declared.answers.Accepted.{Accepted}
use Rattle.px_outside.specs.declared.answers.Accepted.TheVariants as accepted
use Rattle.px_outside.specs.declared.answers.ReadAnswer.TheVariants as read
use Rattle.px_outside.specs.declared.answers.WriteAnswer.TheVariants as write
use Rattle.px_outside.specs.declared.answers.ConnectAnswer.TheVariants as connect
use Rattle.px_outside.specs.declared.mem_script.MemRead.{MemRead}
use Rattle.px_outside.specs.declared.mem_script.NetFails.{NetFails}
use Rattle.px_outside.specs.Outside.{counted_up}
use Rattle.px_outside.specs.Net.{Call, Listen, Wait, Accept, Connect, Ask, Read, Write, Finish}
use Rattle.px_outside.specs.Net.{Close}
use Rattle.px_outside.specs.MemLink.{LinkInMemory, refused_link, passed_over, after_answer}
use Rattle.px_outside.specs.MemLink.{ReadsLink, WritesLink}

pub record NetInMemory : Type 0 where
  -- the link of number n is the one before place n
  pub links : List LinkInMemory
  -- where it listens, in the order of the calls
  pub slots : List ℕ
  -- of each kind of call, the numbers of those that fail, the first being 1
  pub fails : NetFails
  -- how many calls of each kind there were
  pub listens : ℕ
  pub waits : ℕ
  pub accepts : ℕ
  pub connects : ℕ
  -- how many of them failed
  pub faults : ℕ

-- the call of this number is one that fails
abbrev pub is_failing : List ℕ → ℕ → Bool
is_failing fails number = list_any (λ n. n == number) fails

abbrev pub failed_once : NetInMemory → NetInMemory
failed_once m = record m { faults = counted_up m.faults }

-- the answer of a call that may fail: `m` is the net with the call counted, `Does` is said where it
-- succeeds, and `Forgets` where memory was refused
abbrev pub Answers : {T : Type 0} → (m : NetInMemory) → (fails : Bool) → (Does : T → Type 0)
    → (Forgets : Type 0) → Result T Failed → NetInMemory → Type 0
Answers m fails Does Forgets (Ok x) n = (fails ≡ false) × Does x
Answers m fails Does Forgets (Err failed.Failed) n = (fails ≡ true) × (n ≡ failed_once m)
Answers m fails Does Forgets (Err failed.Memory) n = (fails ≡ false) × Forgets

-- the place of the first link from place `k` on that is not given and has this slot
abbrev pub free_from : ℕ → List LinkInMemory → Option ℕ → Option ℕ
free_from k [] slot = None
free_from k (l ∷ links) slot =
    if not l.given && option_eq nat_eq l.slot slot then Some k else free_from (k + 1) links slot

-- a link that stands at this place and is not given
pub record IsFree (links : List LinkInMemory) (i : ℕ) : Type 0 where
  pub within : i < length links
  pub link : LinkInMemory
  pub is : slice_get links i ≡ Some link
  pub free : link.given ≡ false

abbrev pub is_alive : Option LinkInMemory → Bool
is_alive None = false
is_alive (Some l) = l.alive

abbrev pub is_ended : Option LinkInMemory → Bool
is_ended None = false
is_ended (Some l) = l.ended

-- the link of this number has given End
abbrev pub has_ended : List LinkInMemory → ℕ → Bool
has_ended links n = nat_lt 0 n && is_ended (slice_get links (n - 1))

-- the place of the open link of this number
abbrev pub place_of : List LinkInMemory → ℕ → Option ℕ
place_of links n = if nat_lt 0 n && is_alive (slice_get links (n - 1)) then Some (n - 1) else None

-- a link that stands at this place and is open
pub record IsOpen (links : List LinkInMemory) (i : ℕ) : Type 0 where
  pub within : i < length links
  pub link : LinkInMemory
  pub is : slice_get links i ≡ Some link
  pub alive : link.alive ≡ true

-- a call on a link, which does nothing where the number names no open link
abbrev pub OnLink : NetInMemory → ℕ → (Nothing : Type 0)
    → (Changes : LinkInMemory → LinkInMemory → Type 0) → NetInMemory → Type 0
OnLink m number Nothing Changes n =
    MatchOption (place_of m.links number) (Nothing × (n ≡ m))
    (λ i. (l : LinkInMemory) × (slice_get m.links i ≡ Some l)
    × ((l' : LinkInMemory) × Changes l l' × (n ≡ record m { links = slice_set m.links i l' })))

-- where something may be ready: each listener, and each open link, from place `k` on
abbrev pub alive_from : ℕ → List LinkInMemory → List ReadyAt
alive_from k [] = []
alive_from k (l ∷ links) =
    if l.alive then ready.Link (k + 1) ∷ alive_from (k + 1) links else alive_from (k + 1) links

abbrev pub ready_list : NetInMemory → List ReadyAt
ready_list m = map ready.Listener m.slots ++ alive_from 0 m.links

-- the net with the link at place `i` given
abbrev pub given_at : NetInMemory → ℕ → LinkInMemory → NetInMemory
given_at m i l = record m { links = slice_set m.links i (record l { given = true; alive = true }) }

-- the link at place `i` is given
abbrev pub GivesAt : NetInMemory → ℕ → (number : ℕ) → (From : Addr → Type 0) → NetInMemory → Type 0
GivesAt m i number From n = (number ≡ i + 1)
    × ((l : LinkInMemory) × (slice_get m.links i ≡ Some l) × From l.from × (n ≡ given_at m i l))

abbrev pub AcceptsLink : NetInMemory → ℕ → Accepted → NetInMemory → Type 0
AcceptsLink m slot (accepted.One number from) n =
    (i : ℕ) × (free_from 0 m.links (Some slot) ≡ Some i) × GivesAt m i number (λ a. from ≡ a) n
AcceptsLink m slot accepted.NotYet n = (free_from 0 m.links (Some slot) ≡ None) × (n ≡ m)

abbrev pub ConnectsLink : NetInMemory → Addr → ℕ → NetInMemory → Type 0
ConnectsLink m to number n =
    MatchOption (free_from 0 m.links None)
    ((number ≡ length m.links + 1) × (n ≡ record m { links = m.links ++ refused_link to ∷ [] }))
    (λ i. GivesAt m i number (λ a. Unit {0}) n)

-- no link is left for `connect`, and no number for one more
abbrev pub is_full : NetInMemory → Bool
is_full m = not (is_some (free_from 0 m.links None)) && (length m.links == 2 ^ 32 - 1)

abbrev pub counts_listen : NetInMemory → NetInMemory
counts_listen m = record m { listens = counted_up m.listens }

abbrev pub counts_wait : NetInMemory → NetInMemory
counts_wait m = record m { waits = counted_up m.waits }

abbrev pub counts_accept : NetInMemory → NetInMemory
counts_accept m = record m { accepts = counted_up m.accepts }

abbrev pub counts_connect : NetInMemory → NetInMemory
counts_connect m = record m { connects = counted_up m.connects }

-- what each call does, with its answer
abbrev pub Does : NetInMemory → Call → NetInMemory → Type 0
Does m (Listen slot at answer) n =
    Answers (counts_listen m) (is_failing m.fails.listen (counted_up m.listens))
    (λ _. n ≡ record (counts_listen m) { slots = m.slots ++ slot ∷ [] })
    (n ≡ counts_listen m) answer n
Does m (Wait until listed answer) n =
    Answers (counts_wait m) (is_failing m.fails.wait (counted_up m.waits))
    (λ _. (listed ≡ ready_list m) × (n ≡ counts_wait m)) (n ≡ counts_wait m) answer n
Does m (Accept slot answer) n =
    Answers (counts_accept m) (is_failing m.fails.accept (counted_up m.accepts))
    (λ given. AcceptsLink (counts_accept m) slot given n) ⊥ answer n
Does m (Connect to answer) n =
    Answers (counts_connect m) (is_failing m.fails.connect (counted_up m.connects) || is_full m)
    (λ number. ConnectsLink (counts_connect m) to number n) (n ≡ counts_connect m) answer n
Does m (Ask link answer) n =
    OnLink m link (answer ≡ connect.NotYet)
    (λ l l'. (answer ≡ l.connect) × (l' ≡ after_answer l answer)) n
Does m (Read link len answer bytes) n =
    OnLink m link ((answer ≡ read.NotYet) × (bytes ≡ []))
    (λ l l'. ReadsLink (passed_over (has_ended m.links) l) len answer bytes l') n
Does m (Write link bytes answer) n =
    OnLink m link (answer ≡ write.NotYet) (λ l l'. WritesLink l bytes answer l') n
Does m (Finish link) n = n ≡ m
Does m (Close link) n = OnLink m link (Unit {0}) (λ l l'. l' ≡ record l { alive = false }) n

-- the link of this number is given, or is open
abbrev pub IsGiven : NetInMemory → ℕ → Type 0
IsGiven m n = (0 < n) × MatchOption (slice_get m.links (n - 1)) ⊥ (λ l. l.given ≡ true)

abbrev pub AliveAmong : List LinkInMemory → ℕ → Type 0
AliveAmong links n = (0 < n) × MatchOption (slice_get links (n - 1)) ⊥ (λ l. l.alive ≡ true)

abbrev pub IsAliveLink : NetInMemory → ℕ → Type 0
IsAliveLink m n = AliveAmong m.links n

abbrev pub faults_or : Option LinkInMemory → ℕ
faults_or None = 0
faults_or (Some l) = l.faults

abbrev pub faults_of : NetInMemory → ℕ → ℕ
faults_of m n = faults_or (slice_get m.links (n - 1))

abbrev pub taken_by : List LinkInMemory → ℕ → Option (List ℕ)
taken_by links n = if nat_lt 0 n then option_map (λ l. l.taken) (slice_get links (n - 1)) else None
