-- What each call of the engine answers and leaves, by documents 01 and 02, and what is proved of it. The documents' words and ours:
--
--   stick            device: its bytes, as a list
--   tape mark        tape position: the number of the next unused tape byte (`TapePosition`, `Held.position`)
--   mark FFFFFFFF    `unmapped`, the entry of a logical slice that has no slice
--   places looked at probes, the places of the permutation that a claim passed or took, counted from the start place
--   start place      `Session.start`: the place of the permutation where a claim begins to look
--   N                the count of logical slices of a volume: `count_of` a session, `count_in` counts from volume 0 up, `slice_count` of a
--                    header's text; not the index n
--   B, S, P, m, H    `Geometry` b, s, p; `map_blocks`, `header_blocks`
--   slice ψ          a physical slice, by its number; logical slice σ of a volume is an index into its row of the map table
--   entry            what the map table or a header's map holds for a logical slice: a slice's number or the mark. `entry` is that of
--                    logical slice σ of volume i in a table, `entry_of` that of a block address, `stored_entry` the one in a header's map
--                    blocks, `map_entries` all of these by their index in the table
--   map block        one of the m blocks of a volume that hold its entries on the device; `map_block_of` is the number of the one that has
--                    the entry of a logical slice
--   offset j         the number of a data block in its slice
--   owner            0 for a free slice, i + 1 for one that volume i holds
--   VMK, VEK         the master key and the data key of a volume
--   cell, header     `cell_of` and `header_of` a device: 60 bytes; 1 + m blocks
--   drawn            the tape bytes of a formatting as one list, of which the device's noise, each key and each IV is a part
--   slice freed      the slice that a release gives back: `Freed`; its place is the one that names it in the permutation, `place_of`
--
-- A refusal is its number in the documents, 0 where none applies. What a write or a release does to the device is a list of patches
-- (place and bytes), made from its arguments and the device's length alone; a formatting gives the device whole, a shuffle its list.
pub mod Parts
pub mod Geometry
pub mod Permutation
pub mod Session
pub mod Maps
pub mod Search
pub mod Opening
pub mod Conditions
pub mod Read
pub mod Write
pub mod Release
pub mod Close
pub mod Format
pub mod Shuffle
pub mod Answers
pub mod Theorems
pub mod Bench
