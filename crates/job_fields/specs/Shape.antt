-- Whether bytes have the shape of a job: the header of six u32 (nodes, links, sources, and the offsets of settings, links and sources), the flags,
-- the length, and a job's own limits. Assumes nothing.
use Rattle.std.specs.Prelude.{ℕ, ◌+◌, ◌*◌, Bool, ◌&&◌, List, leb, ltb, eqb, length}
use Rattle.job_fields.specs.Fields.{word_at}

-- how many nodes, links and sources the header names
abbrev pub nodes_in : List ℕ → ℕ
nodes_in bytes = word_at bytes 0

abbrev pub links_in : List ℕ → ℕ
links_in bytes = word_at bytes 4

abbrev pub sources_in : List ℕ → ℕ
sources_in bytes = word_at bytes 8

-- settings at 24, links at 56, sources behind the links
abbrev pub offsets : List ℕ → Bool
offsets bytes = eqb (word_at bytes 12) 24 && (eqb (word_at bytes 16) 56 && eqb (word_at bytes 20) (56 + 16 * links_in bytes))

-- at most 256 nodes, 1,024 links and 16 sources
abbrev pub limits : List ℕ → Bool
limits bytes = leb (nodes_in bytes) 256 && (leb (links_in bytes) 1024 && leb (sources_in bytes) 16)

-- the file ends after the sources, and of the flags bit 0 alone may be set
unfoldable pub shaped : List ℕ → Bool
shaped bytes =
    eqb (length bytes) (56 + 16 * links_in bytes + 4 * sources_in bytes) && (offsets bytes && (limits bytes && ltb (word_at bytes 52) 2))
