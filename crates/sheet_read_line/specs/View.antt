-- What the record of an `under=` line says, in the words of crate `spec_sheet`.
use Rattle.std.specs.Prelude.{◌≡◌, List, ℕ}
use Rattle.spec_model.specs.Check.{links_of}
use Rattle.spec_model.specs.Records.{links_record}
use Rattle.table_record.specs.declared.Links.{Links}
use Rattle.table_record.specs.Store.{raw_links}

-- the broader categories of a record
abbrev pub broader_in : Links → List ℕ
broader_in x = links_of (raw_links x)

-- The record is the one that stands for the categories read: a missing second one is 0 (B20).
abbrev pub LinksExact : Links → Type 0
LinksExact x = links_record (broader_in x) ≡ raw_links x
