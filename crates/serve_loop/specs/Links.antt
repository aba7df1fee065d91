-- Whose each open link is, and which link each side of a connection has.
use Rattle.std.specs.Prelude.{◌≡◌, ℕ, Option, Some, None, nat_eq, if◌then◌else◌}
use Rattle.std.specs.HashMap.{get}
use Rattle.px_bytes.specs.declared.addr.Side.{Side}
use Rattle.px_bytes.specs.declared.addr.Side.TheVariants.{Client, Server}
use Rattle.serve_loop.specs.declared.link_owner.LinkOwner.{LinkOwner}
use Rattle.serve_loop.specs.declared.links.Links.{Links}

-- whose a link is
abbrev pub owner_in : Links → ℕ → Option LinkOwner
owner_in t link = get nat_eq t.owners link

-- the link of a side of a connection
abbrev pub link_in : Links → ℕ → Side → Option ℕ
link_in t conn Client = get nat_eq t.clients conn
link_in t conn Server = get nat_eq t.servers conn

abbrev pub other_side : Side → Side
other_side Client = Server
other_side Server = Client

-- with another value for this number
abbrev pub with_number : {A : Type 0} → ℕ → A → (ℕ → A) → ℕ → A
with_number key value of k = if nat_eq key k then value else of k

-- no link is known
pub record IsEmpty (t : Links) : Type 0 where
  pub owner : (l : ℕ) → owner_in t l ≡ None
  pub link : (c : ℕ) (side : Side) → link_in t c side ≡ None

pub record Same (old new : Links) : Type 0 where
  pub owner : (l : ℕ) → owner_in new l ≡ owner_in old l
  pub link : (c : ℕ) (side : Side) → link_in new c side ≡ link_in old c side

-- the link and the side of the connection belong together from now on
pub record Opens (old new : Links) (link conn : ℕ) (side : Side) : Type 0 where
  pub owner : (l : ℕ)
      → owner_in new l ≡ with_number link (Some (record { conn = conn; side = side })) (owner_in old) l
  pub linked : (c : ℕ)
      → link_in new c side ≡ with_number conn (Some link) (λ k. link_in old k side) c
  pub other : (c : ℕ) → link_in new c (other_side side) ≡ link_in old c (other_side side)

-- neither is there any more
pub record Closes (old new : Links) (link conn : ℕ) (side : Side) : Type 0 where
  pub owner : (l : ℕ) → owner_in new l ≡ with_number link None (owner_in old) l
  pub linked : (c : ℕ) → link_in new c side ≡ with_number conn None (λ k. link_in old k side) c
  pub other : (c : ℕ) → link_in new c (other_side side) ≡ link_in old c (other_side side)
