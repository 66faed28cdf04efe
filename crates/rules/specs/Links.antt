-- The link between the concentrator and one reader, as either of them holds it.
use Rattle.std.specs.Prelude.{ℕ, ◌-◌, true, false, not, List, slice_index_or, slice_set}
use Rattle.rules.specs.declared.link.Link.{Link}

-- as every link begins
abbrev pub unset_link : Link
unset_link = record { set = false; next = false }

-- after a reset the next bit is 1
abbrev pub reset_link : Link
reset_link = record { set = true; next = true }

-- the other bit comes next
abbrev pub flipped : Link → Link
flipped l = record { set = l.set; next = not l.next }

-- unset, with its bit unaltered
abbrev pub unset : Link → Link
unset l = record { set = false; next = l.next }

-- the link to a station in the table of links, station 1 first
abbrev pub link_at : List Link → ℕ → Link
link_at links a = slice_index_or links (a - 1) unset_link

-- the table with another link to a station
abbrev pub change_link : List Link → ℕ → Link → List Link
change_link links a l = slice_set links (a - 1) l
