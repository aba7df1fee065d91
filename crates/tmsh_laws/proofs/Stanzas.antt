-- What is read of the stanzas of a configuration in print.
use Rattle.std.proofs.Common.{◌≡◌, ℕ, ◌≤◌, eqb, List, [], ◌∷◌, ◌++◌, append_assoc, Some, refl, sym, ap, subst}
use Rattle.std.specs.Fmt.{decimal}
use Rattle.std.specs.Prelude.{codes, pos}
use Rattle.toml.specs.Data.{string, integer, Items, no_items, Members, no_members}
use Rattle.tmsh_laws.proofs.Lines.{Goes, Plain, blank, by_chain, ends_line, item_goes, newline, number_entry, put, unless_usual}
use Rattle.tmsh_laws.proofs.Marks.{number_back}
use Rattle.tmsh_laws.proofs.Reading.{IsRun, ReadsAll, open_all, run_all, run_of, run_within}
use Rattle.tmsh_read.specs.Grammar.{step}
use Rattle.tmsh_read.specs.Items.{number}
use Rattle.tmsh_read.specs.Sketch.{Sketch, begun}
use Rattle.tmsh_read.specs.Stanzas.{after_name, section_word}
use Rattle.tmsh_read.specs.Tables.{with_member}
use Rattle.tmsh_read.proofs.ReaderTypes.{Block, Item, Next, Section}
use Rattle.tmsh_read.proofs.GapKinds.{LineStart, Within}
use Rattle.tmsh_read.proofs.NextKinds as next
use Rattle.tmsh_read.proofs.TokenKinds.{Close, Run}
use Rattle.tmsh_text.specs.Items.{item, number_item, stanza}

-- ---- what was read, by what is open

module _ (s : Sketch) where
  abbrev pub now : Next → Members → Items → Members → Items → Sketch
  now n st en me ro = record {
    next = n;
    limited = s.limited;
    limits = s.limits;
    servers = s.servers;
    pools = s.pools;
    rules = s.rules;
    groups = s.groups;
    stanza = st;
    entries = en;
    member = me;
    row = ro;
  }

  -- nothing is open
  abbrev pub idle : Next → Sketch
  idle n = now n no_members no_items no_members no_items

  -- among the items of a stanza
  abbrev pub among : Block → Members → Sketch
  among b m = now (next.Items b) m no_items no_members no_items

  -- behind a keyword of it
  abbrev pub value : Item → Members → Sketch
  value i m = now (next.Value i) m no_items no_members no_items

-- ---- the head of a stanza

module _ (s u : Sketch) where
  -- `ltm` and a blank
  pub ltm_all : (rest : List ℕ) → ReadsAll Within (idle s next.Section) rest u → ReadsAll LineStart (idle s next.Stanza) (108 ∷ (116 ∷ (109 ∷ (32 ∷ rest)))) u
  ltm_all rest more =
      run_all LineStart (idle s next.Stanza) (idle s next.Section) u refl 108 (116 ∷ (109 ∷ [])) 32 rest refl (run_of (108 ∷ (116 ∷ (109 ∷ []))) refl) refl refl
      (blank (idle s next.Section) u refl rest more)

  -- the name, a blank, a brace and the line's end
  module _ (b : Block) (sec : Section) (opens : after_name sec ≡ next.Opens b) where
    begins : (name : List ℕ) → begun sec name (idle s (next.Name sec)) ≡ now s (next.Opens b) (with_member (codes "name") (string name) no_members) no_items no_members no_items
    begins name = rw opens refl

    pub name_all : (name rest : List ℕ) → IsRun name → ReadsAll LineStart (among s b (with_member (codes "name") (string name) no_members)) rest u
        → ReadsAll Within (idle s (next.Name sec)) (name ++ (32 ∷ (123 ∷ (10 ∷ rest)))) u
    name_all name rest run more =
        let m = with_member (codes "name") (string name) no_members in
        let named = now s (next.Opens b) m no_items no_members no_items in
        run_within (idle s (next.Name sec)) named u refl name 32 (123 ∷ (10 ∷ rest)) run refl (ap Some (begins name))
        (blank named u refl (123 ∷ (10 ∷ rest))
        (open_all Within named (among s b m) u refl (10 ∷ rest) refl refl
        (newline (among s b m) u refl rest more)))

    pub section_all : (w name rest : List ℕ) → IsRun w → section_word w ≡ Some (next.Name sec) → IsRun name
        → ReadsAll LineStart (among s b (with_member (codes "name") (string name) no_members)) rest u
        → ReadsAll LineStart (idle s next.Stanza) (108 ∷ (116 ∷ (109 ∷ (32 ∷ (w ++ (32 ∷ (name ++ (32 ∷ (123 ∷ (10 ∷ rest)))))))))) u
    section_all w name rest run_w is run more =
        let after = name ++ (32 ∷ (123 ∷ (10 ∷ rest))) in
        ltm_all (w ++ (32 ∷ after))
        (run_within (idle s next.Section) (idle s (next.Name sec)) u refl w 32 after run_w refl (rw is refl)
        (blank (idle s (next.Name sec)) u refl after (name_all name rest run more)))

-- a stanza of a word and a name, by what its items and its end come to
pub stanza_goes : (s t : Sketch) (b : Block) (sec : Section) (w name items : List ℕ) (m : Members) → after_name sec ≡ next.Opens b → IsRun w → section_word w ≡ Some (next.Name sec) → IsRun name
    → Goes LineStart (among s b (with_member (codes "name") (string name) no_members)) items LineStart (among s b m)
    → step (among s b m) Close ≡ Some (idle t next.Stanza)
    → Goes LineStart (idle s next.Stanza) (stanza (108 ∷ (116 ∷ (109 ∷ (32 ∷ (w ++ (32 ∷ [])))))) name items) LineStart (idle t next.Stanza)
stanza_goes s t b sec w name items m opens run_w is run goes closes =
    by_chain LineStart LineStart (idle s next.Stanza) (idle t next.Stanza) ((108 ∷ (116 ∷ (109 ∷ (32 ∷ (w ++ (32 ∷ [])))))) ∷ (name ∷ (codes " {\n" ∷ (items ∷ (codes "}\n" ∷ [])))))
    (λ rest u all.
    let behind = 125 ∷ (10 ∷ rest) in
    let after = name ++ (32 ∷ (123 ∷ (10 ∷ (items ++ behind)))) in
    subst (λ x. ReadsAll LineStart (idle s next.Stanza) (108 ∷ (116 ∷ (109 ∷ (32 ∷ x)))) u) (sym (append_assoc w (32 ∷ []) after))
    (section_all s u b sec opens w name (items ++ behind) run_w is run
    (goes behind u (ends_line (among s b m) (idle t next.Stanza) refl refl closes rest u all))))

-- ---- numbers

-- an item that is a number
module _ (state : Members → Sketch) (valued : Sketch) (k w : List ℕ) (run : IsRun w) (m : Members)
    (plain : (n : Members) → Plain (state n)) (plain_valued : Plain valued)
    (first : step (state m) (Run w) ≡ Some valued)
    (last : (n : ℕ) → number (decimal n) ≡ Some n → step valued (Run (decimal n)) ≡ Some (state (with_member k (integer (pos n)) m))) where
  pub number_goes : (usual n : ℕ) → n ≤ 999999999999999999 → IsRun (decimal n)
      → Goes LineStart (state m) (number_item w usual n) LineStart (state (put k (number_entry usual n) m))
  number_goes usual n small digits =
      let then_ = with_member k (integer (pos n)) m in
      unless_usual LineStart state k (item w (decimal n)) m n
      (item_goes (state m) valued (state then_) w (decimal n) (plain m) plain_valued (plain then_) run digits first (last n (number_back n small)))
      (eqb n usual)
