-- Types of documents, for laws of the crates above.
use Rattle.config.specs.declared.key.Form.{Form as TheForm}
use Rattle.config.specs.declared.key.Form.TheVariants as form
use Rattle.config.specs.declared.misplaced.Misplaced.{Misplaced as TheMisplaced}
use Rattle.config.specs.declared.section.Section.{Section as TheSection}
use Rattle.config.specs.declared.section.Section.TheVariants as section
use Rattle.config.specs.declared.version.Version.{Version as TheVersion}
use Rattle.config.specs.declared.version.Version.TheVariants as version

abbrev pub Form : Type 0
Form = TheForm

abbrev pub Any : Form
Any = form.Any

abbrev pub Name : Form
Name = form.Name

abbrev pub Address : Form
Address = form.Address

abbrev pub Misplaced : Type 0
Misplaced = TheMisplaced

abbrev pub Section : Type 0
Section = TheSection

abbrev pub Virtual : Section
Virtual = section.Virtual

abbrev pub Pool : Section
Pool = section.Pool

abbrev pub Rule : Section
Rule = section.Rule

abbrev pub Group : Section
Group = section.Group

abbrev pub Version : Type 0
Version = TheVersion

abbrev pub One : Version
One = version.One

abbrev pub Two : Version
Two = version.Two

-- what holds of both versions
pub by_version : (P : Version → Type 0) → P One → P Two → (v : Version) → P v
by_version P one two version.One = one
by_version P one two version.Two = two
