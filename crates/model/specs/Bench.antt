-- The starred bench cases of document 01 ("Bench cases"), as document 02 has them, as rows of one table; further rows for what they
-- leave open, for the limits of a formatting (document 02, P1), for the start place (document 02, P2), for the counts of slices
-- (document 02, P4), for releases (document 02, P5), for shuffles (document 02, P6) and for map blocks (document 02, P7). Assumes nothing.
use Rattle.std.specs.Prelude.{ℕ, ◌+◌, ◌*◌, ◌≡◌, Bool, true, false, List, [], ◌∷◌, ◌++◌, get_or, replicate, set}
use Rattle.field.specs.Field.{times}
use Rattle.field.specs.Sbox.{sbox}
use Rattle.ctr_spec.specs.CounterMode.{increment}
use Rattle.model.specs.declared.Geometry.{Geometry}
use Rattle.model.specs.declared.Session.{Session}
use Rattle.model.specs.declared.Search.{Search}
use Rattle.model.specs.declared.Search.TheVariants.{Free, Bad, Full}
use Rattle.model.specs.Geometry.{bad_geometry, map_blocks, header_blocks, device_length, number_at, four_bytes, cell_start, header_start, map_start}
use Rattle.model.specs.Geometry.{iv_start, block_start, map_block_start, count_in}
use Rattle.model.specs.Session.{held, starting_at, unmapped, slice_of, offset_of, standing, asked, no_keys}
use Rattle.model.specs.Permutation.{place_of}
use Rattle.model.specs.Search.{first_free}
use Rattle.model.specs.Opening.{Loaded, Tables, Spoilt, settle, bad_header, with_tables, no_session}
use Rattle.model.specs.Write.{full, claim_outcome, WriteResult, write_model}
use Rattle.model.specs.Maps.{map_block_of, bad_in_block}
use Rattle.model.specs.Release.{ReleaseResult, release_model}
use Rattle.model.specs.Close.{CloseResult, closed_session, close_model}
use Rattle.model.specs.Format.{format_need, format_refusal}
use Rattle.model.specs.Shuffle.{limit, shuffle_model}
use Rattle.model.specs.Answers.{lent_number, lent_list, lent_position}

-- A geometry by its three numbers, and stick A of the document.
abbrev pub sized : (b s p : ℕ) → Geometry
sized b s p = record { b = b; s = s; p = p }

abbrev pub stick_a : Geometry
stick_a = sized 1024 4 4

-- An open session on a geometry, with its start place at 0 and N = P for each volume.
abbrev pub session : Geometry → (k : ℕ) → Session
session g k = record { geometry = g; k = k; keys = no_keys; opened = true; start = 0; counts = replicate 15 g.p }

-- The same on stick A, with another N for volume i (document 02, P4).
abbrev pub counting : (k i n : ℕ) → Session
counting k i n =
    record { geometry = stick_a; k = k; keys = no_keys; opened = true; start = 0; counts = set (replicate 15 4) i n }

-- The refusal of a session on a device of n bytes, with tables that fit, and of an asked address over an unmapped entry.
abbrev pub on_device : Geometry → ℕ → ℕ
on_device g n = standing n (15 * g.p) g.p (session g 0) 0

abbrev pub at_address : Session → (i a : ℕ) → ℕ
at_address s i a = asked (replicate (15 * s.geometry.p) unmapped) s i a s.geometry.b

-- The refusal of a geometry at opening, and of a session on the device and the tables of stick A.
abbrev pub sizes : (b s p : ℕ) → ℕ
sizes b s p = bad_geometry 1 (sized b s p) 0

abbrev pub in_session : Session → ℕ
in_session s = standing 52224 60 4 s 0

-- 1 for true, 0 for false.
abbrev pub bit : Bool → ℕ
bit true = 1
bit false = 0

-- The refusal of a formatting of stick A with so many keys, of so many bytes, N = P for each, and a tape of so many.
abbrev pub formats : (n keys tape : ℕ) → ℕ
formats n keys tape = format_refusal 52224 stick_a n keys (replicate n 4) tape 0 0

-- The refusal of a formatting of so many bytes as stick A with n keys and these counts.
abbrev pub formats_with : (device n : ℕ) → (counts : List ℕ) → ℕ
formats_with device n counts = format_refusal device stick_a n (32 * n) counts 60000 0 0

-- The number of a close, 0 where served.
abbrev pub closed_by : CloseResult → ℕ
closed_by CloseResult.Closed = 0
closed_by (CloseResult.Refused n) = n

-- A close of a session on a device of n bytes as stick A, with a map table of m entries that name a slice that is none: its number, and
-- the tape position, which was 7.
abbrev pub closing : Session → (n m : ℕ) → List ℕ
closing s n m =
    let o = close_model n (held (replicate m 4) (replicate 4 1) 7 s) in
    closed_by o.answer ∷ o.held.position ∷ []

-- 1 where the map block of logical slice σ of volume i has a bad entry, with the number x at index n of the map table of a session and all
-- else unmapped, else 0.
abbrev pub block_judged : Session → (n x i σ : ℕ) → ℕ
block_judged s n x i σ = bit (bad_in_block (set (replicate (15 * s.geometry.p) unmapped) n x) s i σ)

-- The refusal, 0 for none, of an opening of stick A at entry x of index n, with counts and owners so far.
abbrev pub refusal_of : Loaded → ℕ
refusal_of (Tables maps owners) = 0
refusal_of (Spoilt n) = n

abbrev pub settles : (counts owners : List ℕ) → (x n : ℕ) → ℕ
settles counts owners x n = refusal_of (settle 4 counts x n (replicate 60 unmapped) owners Tables)

-- 1 where stick A refuses a header with this N and this S, else 0.
abbrev pub header : (n s : ℕ) → ℕ
header n s = bit (bad_header stick_a (replicate 64 0 ++ (four_bytes n ++ four_bytes s)))

-- The answer of a write: its number, 0 where served, and the places looked at.
abbrev pub shown : WriteResult → List ℕ
shown (WriteResult.Served change probes) = 0 ∷ probes ∷ []
shown (WriteResult.Refused n probes) = n ∷ probes ∷ []

-- A shuffle of a list of n places from a position of a tape on: its number, 0 where served, the position afterwards, and the list, no
-- place where it stays.
abbrev pub shuffles : Geometry → (n : ℕ) → (tape : List ℕ) → (position : ℕ) → List ℕ
shuffles g n tape position =
    let r = shuffle_model g n tape position in
    lent_number r ∷ lent_position r position ∷ lent_list r []

-- The slice that a search found, the mark where it found none.
abbrev pub slice_found : Search → ℕ
slice_found (Free ψ place) = ψ
slice_found (Bad place) = unmapped
slice_found Full = unmapped

-- A claim with owners, a permutation and a tape of so many bytes, from a start place on: the slice that is found, the answer, the start
-- place that the claim leaves, and the tape position, which was 0.
abbrev pub claims_from : (start : ℕ) → (owners perm : List ℕ) → (tape : ℕ) → List ℕ
claims_from start owners perm tape =
    let found = first_free owners 4 start perm in
    let o = claim_outcome (held (replicate 60 unmapped) owners 0 (starting_at start (session stick_a 0))) 0 0 0 [] (replicate tape 0) found in
    slice_found found ∷ (shown o.answer ++ (o.held.session.start ∷ o.held.position ∷ []))

-- The same in a session that an opening gave which loaded these owners, with this permutation.
abbrev pub claims : (owners perm : List ℕ) → List ℕ
claims owners perm = claims_from (with_tables stick_a perm 0 no_keys [] (Tables [] owners)).session.start owners perm 1040

-- A write of zeros to block a of volume i on stick A with k 1, every slice free, where logical slice 0 of volume 1 maps slice 2 and the
-- number x stands at index n of the map table, with a tape of so many bytes: the answer, and the tape position, which was 0.
abbrev pub writes : (n x i a tape : ℕ) → List ℕ
writes n x i a tape =
    let h = held (set (set (replicate 60 unmapped) 4 2) n x) (replicate 4 0) 0 (session stick_a 1) in
    let o = write_model 52224 h i a (replicate 1024 0) (0 ∷ 1 ∷ 2 ∷ 3 ∷ []) (replicate tape 0) in
    shown o.answer ++ (o.held.position ∷ [])

-- The answer of a release: its number, 0 where served, and the slice freed, the mark where refused.
abbrev pub freed : ReleaseResult → List ℕ
freed (ReleaseResult.Freed ψ) = 0 ∷ ψ ∷ []
freed (ReleaseResult.Refused n) = n ∷ unmapped ∷ []

-- A release of logical slice σ of volume i on stick A, with the number ψ at index n of the map table and all else unmapped, every slice
-- held, and a tape of so many bytes: the answer, the entry at n, the start place and the tape position afterwards, and the owners.
abbrev pub releases_on : (tape : ℕ) → Session → (n ψ i σ : ℕ) → (perm : List ℕ) → List ℕ
releases_on tape s n ψ i σ perm =
    let o = release_model 52224 (held (set (replicate 60 unmapped) n ψ) (replicate 4 1) 0 s) i σ perm (replicate tape 0) in
    freed o.answer ++ (get_or o.held.maps n 0 ∷ o.held.session.start ∷ o.held.position ∷ o.held.owners)

abbrev pub releases : Session → (n ψ i σ : ℕ) → (perm : List ℕ) → List ℕ
releases s n ψ i σ perm = releases_on 16 s n ψ i σ perm

-- The number alone, of a release of logical slice σ of volume i where slice 2 stands at index 5, which is logical slice 1 of volume 1.
abbrev pub release_number : Session → (i σ : ℕ) → (perm : List ℕ) → ℕ
release_number s i σ perm = get_or (releases s 5 2 i σ perm) 0 0

-- A case: what the definitions give, and what the document says.
pub record Case : Type 0 where
  pub given : List ℕ
  pub says : List ℕ

abbrev pub row : List ℕ → List ℕ → Case
row given says = record { given = given; says = says }

unfoldable pub cases : List Case
cases =
    -- A: m 1, H 31, 52,224 bytes; one byte fewer or more is 2.
    row (map_blocks stick_a ∷ header_blocks stick_a ∷ device_length stick_a ∷ on_device stick_a 52224 ∷ on_device stick_a 52223 ∷ on_device stick_a 52225 ∷ [])
    (1 ∷ 31 ∷ 52224 ∷ 0 ∷ 2 ∷ 2 ∷ [])
    -- B 1,024: P 252 has m 1; P 253 has m 2, H 46.
    ∷ row (map_blocks (sized 1024 4 252) ∷ map_blocks (sized 1024 4 253) ∷ header_blocks (sized 1024 4 253) ∷ []) (1 ∷ 2 ∷ 46 ∷ [])
    -- B 4,096, S 256, P 4,096: m 5, H 91, 4,312,117,248 bytes.
    ∷ row (map_blocks (sized 4096 256 4096) ∷ header_blocks (sized 4096 256 4096) ∷ device_length (sized 4096 256 4096) ∷ []) (5 ∷ 91 ∷ 4312117248 ∷ [])
    -- Cell 14 is bytes 856 to 915.
    ∷ row (cell_start 14 ∷ (cell_start 14 + 59) ∷ []) (856 ∷ 915 ∷ [])
    -- A: slice 2, offset 3 is device block 45, byte 46,080.
    ∷ row (block_start stick_a 2 3 ∷ (45 * 1024) ∷ []) (46080 ∷ 46080 ∷ [])
    -- A: address 15 is served, 16 is 12.
    ∷ row (at_address (session stick_a 0) 0 15 ∷ at_address (session stick_a 0) 0 16 ∷ []) (0 ∷ 12 ∷ [])
    -- Permutation 2 0 3 1, owners free, opened so: slice 2, count 1; the start place is then 1.
    ∷ row (claims (0 ∷ 0 ∷ 0 ∷ 0 ∷ []) (2 ∷ 0 ∷ 3 ∷ 1 ∷ [])) (2 ∷ 0 ∷ 1 ∷ 1 ∷ 1040 ∷ [])
    -- With 2, 0, 3 held, opened so: slice 1, count 1. All held: 22, count 0 (document 02, P2). The start place is P after both.
    ∷ row (claims (1 ∷ 0 ∷ 1 ∷ 1 ∷ []) (2 ∷ 0 ∷ 3 ∷ 1 ∷ [])) (1 ∷ 0 ∷ 1 ∷ 4 ∷ 1040 ∷ [])
    ∷ row (claims (1 ∷ 1 ∷ 1 ∷ 1 ∷ []) (2 ∷ 0 ∷ 3 ∷ 1 ∷ [])) (unmapped ∷ 22 ∷ 0 ∷ 4 ∷ 0 ∷ [])
    -- The same two from start place 0, with the counts of document 01, and from 1, the 22 without tape: the places from there on count.
    ∷ row (claims_from 0 (1 ∷ 0 ∷ 1 ∷ 1 ∷ []) (2 ∷ 0 ∷ 3 ∷ 1 ∷ []) 1040) (1 ∷ 0 ∷ 4 ∷ 4 ∷ 1040 ∷ [])
    ∷ row (claims_from 0 (1 ∷ 1 ∷ 1 ∷ 1 ∷ []) (2 ∷ 0 ∷ 3 ∷ 1 ∷ []) 1040) (unmapped ∷ 22 ∷ 4 ∷ 4 ∷ 0 ∷ [])
    ∷ row (claims_from 1 (1 ∷ 0 ∷ 1 ∷ 1 ∷ []) (2 ∷ 0 ∷ 3 ∷ 1 ∷ []) 1040) (1 ∷ 0 ∷ 3 ∷ 4 ∷ 1040 ∷ [])
    ∷ row (claims_from 1 (1 ∷ 1 ∷ 1 ∷ 1 ∷ []) (2 ∷ 0 ∷ 3 ∷ 1 ∷ []) 0) (unmapped ∷ 22 ∷ 3 ∷ 4 ∷ 0 ∷ [])
    -- From start place 1, slice 0 held: 21 on a tape one byte short, and 5, also without tape, where place 2 holds 9; count 2 in both,
    -- and the start place stays.
    ∷ row (claims_from 1 (1 ∷ 0 ∷ 0 ∷ 0 ∷ []) (2 ∷ 0 ∷ 3 ∷ 1 ∷ []) 1039) (3 ∷ 21 ∷ 2 ∷ 1 ∷ 0 ∷ [])
    ∷ row (claims_from 1 (1 ∷ 0 ∷ 0 ∷ 0 ∷ []) (2 ∷ 0 ∷ 9 ∷ 1 ∷ []) 0) (unmapped ∷ 5 ∷ 2 ∷ 1 ∷ 0 ∷ [])
    -- A 9 at place 0, before the start place, is not met.
    ∷ row (claims_from 1 (1 ∷ 0 ∷ 0 ∷ 0 ∷ []) (9 ∷ 0 ∷ 3 ∷ 1 ∷ []) 1040) (3 ∷ 0 ∷ 2 ∷ 3 ∷ 1040 ∷ [])
    -- From start place P on there is nothing to look at, although every slice is free.
    ∷ row (claims_from 4 (0 ∷ 0 ∷ 0 ∷ 0 ∷ []) (2 ∷ 0 ∷ 3 ∷ 1 ∷ []) 1040) (unmapped ∷ 22 ∷ 0 ∷ 4 ∷ 0 ∷ [])
    -- A, the number 4, which is no slice, at logical slice 1 of volume 1: a claim of that volume is 9, also without tape, one of volume 0 is
    -- served, and so is a rewrite of that volume with 16 tape bytes; a write to logical slice 1 itself is 9 (document 02, P7).
    ∷ row (writes 5 4 1 8 1040 ++ (writes 5 4 1 8 0 ++ writes 5 4 0 8 1040)) (9 ∷ 0 ∷ 0 ∷ 9 ∷ 0 ∷ 0 ∷ 0 ∷ 1 ∷ 1040 ∷ [])
    ∷ row (writes 5 4 1 0 16 ++ (writes 5 4 1 0 15 ++ writes 5 4 1 4 1040)) (0 ∷ 0 ∷ 16 ∷ 21 ∷ 0 ∷ 0 ∷ 9 ∷ 0 ∷ 0 ∷ [])
    -- A 22 leaves the tape position.
    ∷ row ((full (held [] [] 7 (session stick_a 0))).held.position ∷ []) (7 ∷ [])
    -- A, slice 2 held as logical slice 1 of volume 1: a release frees it; from start place 3 on the start place becomes 0, the place of
    -- slice 2 in 2 0 3 1; where the slice stands at place 3 the start place stays 2 (document 02, P5).
    ∷ row (releases (starting_at 3 (session stick_a 1)) 5 2 1 1 (2 ∷ 0 ∷ 3 ∷ 1 ∷ [])) (0 ∷ 2 ∷ unmapped ∷ 0 ∷ 16 ∷ 1 ∷ 1 ∷ 0 ∷ 1 ∷ [])
    ∷ row (releases (starting_at 2 (session stick_a 1)) 5 2 1 1 (0 ∷ 1 ∷ 3 ∷ 2 ∷ [])) (0 ∷ 2 ∷ unmapped ∷ 2 ∷ 16 ∷ 1 ∷ 1 ∷ 0 ∷ 1 ∷ [])
    ∷ row (place_of 2 (2 ∷ 0 ∷ 3 ∷ 1 ∷ []) ∷ place_of 3 (2 ∷ 0 ∷ 3 ∷ 1 ∷ []) ∷ place_of 1 (2 ∷ 0 ∷ 3 ∷ 1 ∷ []) ∷ []) (0 ∷ 2 ∷ 3 ∷ [])
    -- The number 4, which is no slice, is 9 and stays; an unmapped logical slice is 25, also one that neighbours a mapped one.
    ∷ row (releases (session stick_a 1) 5 4 1 1 (2 ∷ 0 ∷ 3 ∷ 1 ∷ [])) (9 ∷ unmapped ∷ 4 ∷ 0 ∷ 0 ∷ 1 ∷ 1 ∷ 1 ∷ 1 ∷ [])
    ∷ row (releases (session stick_a 1) 5 2 1 0 (2 ∷ 0 ∷ 3 ∷ 1 ∷ [])) (25 ∷ unmapped ∷ 2 ∷ 0 ∷ 0 ∷ 1 ∷ 1 ∷ 1 ∷ 1 ∷ [])
    -- With 15 tape bytes it is 21 and stays; without tape an unmapped logical slice is 25, one beside the number 4 is 9 (document 02, P7).
    ∷ row (releases_on 15 (session stick_a 1) 5 2 1 1 (2 ∷ 0 ∷ 3 ∷ 1 ∷ [])) (21 ∷ unmapped ∷ 2 ∷ 0 ∷ 0 ∷ 1 ∷ 1 ∷ 1 ∷ 1 ∷ [])
    ∷ row (releases_on 0 (session stick_a 1) 5 2 1 0 (2 ∷ 0 ∷ 3 ∷ 1 ∷ [])) (25 ∷ unmapped ∷ 2 ∷ 0 ∷ 0 ∷ 1 ∷ 1 ∷ 1 ∷ 1 ∷ [])
    ∷ row (releases_on 0 (session stick_a 1) 5 4 1 0 (2 ∷ 0 ∷ 3 ∷ 1 ∷ [])) (9 ∷ unmapped ∷ 4 ∷ 0 ∷ 0 ∷ 1 ∷ 1 ∷ 1 ∷ 1 ∷ [])
    -- B 1,024, P 253: the entries of logical slices 0 and 251 of volume 1 stand in the map block at device block 5, that of 252 in the one
    -- at 6 (document 02, P7).
    ∷ row
    (map_block_of (sized 1024 4 253) 0 ∷ map_block_of (sized 1024 4 253) 251 ∷ map_block_of (sized 1024 4 253) 252
    ∷ map_block_start (sized 1024 4 253) 1 0 ∷ map_block_start (sized 1024 4 253) 1 1 ∷ [])
    (0 ∷ 0 ∷ 1 ∷ (5 * 1024) ∷ (6 * 1024) ∷ [])
    -- The number 253, which is no slice, at logical slice 251 of volume 0 is bad for a claim or a release of logical slices 0 and 251, and
    -- not of 252 or of volume 1; at logical slice 252 the other way round.
    ∷ row
    (block_judged (session (sized 1024 4 253) 1) 251 253 0 0 ∷ block_judged (session (sized 1024 4 253) 1) 251 253 0 251
    ∷ block_judged (session (sized 1024 4 253) 1) 251 253 0 252 ∷ block_judged (session (sized 1024 4 253) 1) 251 253 1 0 ∷ [])
    (1 ∷ 1 ∷ 0 ∷ 0 ∷ [])
    ∷ row
    (block_judged (session (sized 1024 4 253) 1) 252 253 0 0 ∷ block_judged (session (sized 1024 4 253) 1) 252 253 0 251
    ∷ block_judged (session (sized 1024 4 253) 1) 252 253 0 252 ∷ block_judged (session (sized 1024 4 253) 1) 252 253 1 252 ∷ [])
    (0 ∷ 0 ∷ 1 ∷ 0 ∷ [])
    -- N 2 of volume 1: logical slice 1 is freed, 2 is 12; volume 2 is 11 in a session with k 1, also at a logical slice above its N.
    ∷ row
    (release_number (counting 1 1 2) 1 1 (2 ∷ 0 ∷ 3 ∷ 1 ∷ []) ∷ release_number (counting 1 1 2) 1 2 (2 ∷ 0 ∷ 3 ∷ 1 ∷ [])
    ∷ release_number (counting 1 1 2) 2 4 (2 ∷ 0 ∷ 3 ∷ 1 ∷ []) ∷ [])
    (0 ∷ 12 ∷ 11 ∷ [])
    -- A permutation that is wrong only at its last place, where slice 1 or 3 is missing, or one place short or too long, is 5, before 11;
    -- a closed session is 20 before it.
    ∷ row
    (release_number (session stick_a 1) 1 1 (2 ∷ 0 ∷ 3 ∷ 3 ∷ []) ∷ release_number (session stick_a 1) 2 1 (2 ∷ 0 ∷ 3 ∷ 4 ∷ [])
    ∷ release_number (session stick_a 1) 1 1 (2 ∷ 0 ∷ 1 ∷ 1 ∷ [])
    ∷ release_number (session stick_a 1) 1 1 (2 ∷ 0 ∷ 3 ∷ []) ∷ release_number (session stick_a 1) 1 1 (2 ∷ 0 ∷ 3 ∷ 1 ∷ 1 ∷ [])
    ∷ release_number (closed_session (session stick_a 1)) 1 1 [] ∷ [])
    (5 ∷ 5 ∷ 5 ∷ 5 ∷ 5 ∷ 20 ∷ [])
    -- A: six zeros make 1 2 3 0 of 0 1 2 3; draws 3, 2, 1 leave it; draws 256, most significant byte first, make 2 3 1 0; 0 is a choice
    -- of every place, and the place itself (document 02, P6).
    ∷ row (shuffles stick_a 4 (replicate 6 0) 0) (0 ∷ 6 ∷ 1 ∷ 2 ∷ 3 ∷ 0 ∷ [])
    ∷ row (shuffles stick_a 4 (0 ∷ 3 ∷ 0 ∷ 2 ∷ 0 ∷ 1 ∷ []) 0) (0 ∷ 6 ∷ 0 ∷ 1 ∷ 2 ∷ 3 ∷ [])
    ∷ row (shuffles stick_a 4 (1 ∷ 0 ∷ 1 ∷ 0 ∷ 1 ∷ 0 ∷ []) 0) (0 ∷ 6 ∷ 2 ∷ 3 ∷ 1 ∷ 0 ∷ [])
    -- FFFF is accepted for 4 and for 2 choices and thrown away for 3, FFFE is accepted for all: from byte 1 of a tape with a byte left.
    ∷ row (shuffles stick_a 4 (9 ∷ 255 ∷ 255 ∷ 255 ∷ 255 ∷ 0 ∷ 1 ∷ 0 ∷ 0 ∷ 9 ∷ []) 1) (0 ∷ 9 ∷ 2 ∷ 0 ∷ 1 ∷ 3 ∷ [])
    ∷ row (shuffles stick_a 4 (255 ∷ 254 ∷ 255 ∷ 254 ∷ 255 ∷ 254 ∷ []) 0) (0 ∷ 6 ∷ 1 ∷ 0 ∷ 3 ∷ 2 ∷ [])
    ∷ row (limit 2 ∷ limit 3 ∷ limit 4 ∷ limit 5 ∷ limit 4095 ∷ limit 4096 ∷ []) (65536 ∷ 65535 ∷ 65536 ∷ 65535 ∷ 65520 ∷ 65536 ∷ [])
    -- A tape that ends first, with an odd byte or with draws that are thrown away, is 21; a list of 3 or 5 is 4, before it; P 0 is 1,
    -- before both.
    ∷ row (shuffles stick_a 4 (replicate 5 0) 0 ++ shuffles stick_a 4 (replicate 40 255) 0) (21 ∷ 0 ∷ 21 ∷ 0 ∷ [])
    ∷ row (shuffles stick_a 3 [] 0 ++ (shuffles stick_a 5 (replicate 6 0) 0 ++ shuffles (sized 1024 4 0) 3 [] 1)) (4 ∷ 0 ∷ 4 ∷ 0 ∷ 1 ∷ 1 ∷ [])
    -- P 1 draws nothing: served at the end of the tape, and 21 past it.
    ∷ row (shuffles (sized 1024 4 1) 1 [] 0 ++ (shuffles (sized 1024 4 1) 1 (7 ∷ []) 1 ++ shuffles (sized 1024 4 1) 1 (7 ∷ []) 2))
    (0 ∷ 0 ∷ 0 ∷ 0 ∷ 1 ∷ 0 ∷ 21 ∷ 2 ∷ [])
    -- S-box: 00 to 63, 01 to 7c. Field: 57 times 83 is c1.
    ∷ row (sbox 0x00 ∷ sbox 0x01 ∷ times 0x57 0x83 ∷ []) (0x63 ∷ 0x7c ∷ 0xc1 ∷ [])
    -- Counter of 16 bytes FF, plus one: 16 bytes 00.
    ∷ row (increment (replicate 16 0xFF)) (replicate 16 0x00)
    -- Beyond the starred cases. S 64 is allowed at B 1,024, 65 is 1; 256 and 257 at B 4,096; P 0 and 4,097 are 1, and so are S 0, B 2,048.
    ∷ row (sizes 1024 64 1 ∷ sizes 1024 65 1 ∷ sizes 4096 256 4096 ∷ sizes 4096 257 4096 ∷ []) (0 ∷ 1 ∷ 0 ∷ 1 ∷ [])
    ∷ row (sizes 1024 1 0 ∷ sizes 1024 1 4097 ∷ sizes 1024 0 1 ∷ sizes 2048 1 1 ∷ []) (1 ∷ 1 ∷ 1 ∷ 1 ∷ [])
    -- Start place P is allowed, P + 1 is 20 (document 02, P2), also where every length is wrong; a close leaves it, and a refused opening
    -- has 0.
    ∷ row (in_session (starting_at 4 (session stick_a 0)) ∷ in_session (starting_at 5 (session stick_a 0)) ∷ []) (0 ∷ 20 ∷ [])
    ∷ row (standing 0 0 0 (starting_at 5 (session stick_a 0)) 0 ∷ []) (20 ∷ [])
    ∷ row ((closed_session (starting_at 3 (session stick_a 0))).start ∷ (starting_at 0 (starting_at 3 (session stick_a 0))).start ∷ no_session.start ∷ [])
    (3 ∷ 0 ∷ 0 ∷ [])
    -- N of a volume up to k is 1 to P, else 20, also where every length is wrong; above k nothing is said of it (document 02, P4).
    ∷ row
    (in_session (counting 1 1 1) ∷ in_session (counting 1 1 4) ∷ in_session (counting 1 1 0) ∷ in_session (counting 1 1 5) ∷ in_session (counting 1 0 0) ∷ [])
    (0 ∷ 0 ∷ 20 ∷ 20 ∷ 20 ∷ [])
    ∷ row (in_session (counting 1 2 0) ∷ in_session (counting 1 2 5) ∷ standing 0 0 0 (counting 0 0 5) 0 ∷ []) (0 ∷ 0 ∷ 20 ∷ [])
    -- A, N 3 of volume 1: its address 11 is served, 12 is 12; of volume 0 12 and 15 are served, of volume 2 15 is and 16 is 12.
    ∷ row (at_address (counting 2 1 3) 1 11 ∷ at_address (counting 2 1 3) 1 12 ∷ []) (0 ∷ 12 ∷ [])
    ∷ row
    (at_address (counting 2 1 3) 0 12 ∷ at_address (counting 2 1 3) 0 15 ∷ at_address (counting 2 1 3) 2 15 ∷ at_address (counting 2 1 3) 2 16 ∷ [])
    (0 ∷ 0 ∷ 0 ∷ 12 ∷ [])
    -- A header with N 1 and one with N 4 open; N 0, N 5 and another S are 8 (document 02, P4).
    ∷ row (header 1 4 ∷ header 4 4 ∷ header 0 4 ∷ header 5 4 ∷ header 4 3 ∷ header 4 5 ∷ []) (0 ∷ 0 ∷ 1 ∷ 1 ∷ 1 ∷ 1 ∷ [])
    -- A, N 4 and 2 of volumes 0 and 1: a slice at entry 1 of volume 1 is loaded, at entry 2 it is 9, and so at 3; the mark is loaded
    -- there. At entry 3 of volume 0 it is loaded; the number 4, which is no slice, is 9 at entry 0.
    ∷ row
    (settles (4 ∷ 2 ∷ []) (replicate 4 0) 2 5 ∷ settles (4 ∷ 2 ∷ []) (replicate 4 0) 2 6 ∷ settles (4 ∷ 2 ∷ []) (replicate 4 0) 2 7
    ∷ settles (4 ∷ 2 ∷ []) (replicate 4 0) unmapped 7 ∷ settles (4 ∷ 2 ∷ []) (replicate 4 0) 2 3 ∷ settles (4 ∷ 2 ∷ []) (replicate 4 0) 4 0 ∷ [])
    (0 ∷ 9 ∷ 9 ∷ 0 ∷ 0 ∷ 9 ∷ [])
    -- A slice that is held is 10; at or past N it is 9 before that.
    ∷ row (settles (4 ∷ 2 ∷ []) (replicate 4 1) 2 5 ∷ settles (4 ∷ 2 ∷ []) (replicate 4 1) 2 6 ∷ []) (10 ∷ 9 ∷ [])
    -- The same in the map block of a claim or a release: slice 2 at entry 2 of volume 1 with N 3 and 2, and at entry 3 of volume 0.
    ∷ row
    (block_judged (counting 1 1 3) 6 2 1 0 ∷ block_judged (counting 1 1 2) 6 2 1 0 ∷ block_judged (counting 1 1 2) 3 2 0 0
    ∷ block_judged (counting 1 1 2) 6 unmapped 1 0 ∷ [])
    (0 ∷ 1 ∷ 0 ∷ 0 ∷ [])
    -- A close leaves the counts; a refused opening has 15 zeros.
    ∷ row (count_in (closed_session (counting 1 1 3)).counts 1 ∷ count_in (starting_at 2 (counting 1 1 3)).counts 1 ∷ []) (3 ∷ 3 ∷ [])
    ∷ row no_session.counts (replicate 15 0)
    -- A: two keys with counts 1 and 4 are served; with a count of 0 or 5, or with one count or three, 1, before 2 and 23; without key and
    -- count 23 (document 02, P4).
    ∷ row
    (formats_with 52224 2 (1 ∷ 4 ∷ []) ∷ formats_with 52224 2 (1 ∷ 0 ∷ []) ∷ formats_with 52224 2 (5 ∷ 4 ∷ []) ∷ formats_with 52224 2 (1 ∷ [])
    ∷ formats_with 52224 2 (1 ∷ 4 ∷ 4 ∷ []) ∷ [])
    (0 ∷ 1 ∷ 1 ∷ 1 ∷ 1 ∷ [])
    ∷ row
    (formats_with 52223 2 (1 ∷ []) ∷ formats_with 52224 0 (1 ∷ []) ∷ formats_with 52223 16 (replicate 16 5) ∷ formats_with 52223 0 [] ∷ formats_with 52224 0 [] ∷ [])
    (1 ∷ 1 ∷ 1 ∷ 2 ∷ 23 ∷ [])
    -- k 14 is allowed, 15 is 20; so is a geometry that is not allowed, and a closed session.
    ∷ row (in_session (session stick_a 14) ∷ in_session (session stick_a 15) ∷ []) (0 ∷ 20 ∷ [])
    ∷ row (in_session (session (sized 1024 65 4) 0) ∷ in_session (closed_session (session stick_a 0)) ∷ []) (20 ∷ 20 ∷ [])
    -- A: a close is served whatever the entries are, and leaves the position; 20 comes before 2, and 2 before 4 (document 02, P7).
    ∷ row (closing (session stick_a 1) 52224 60) (0 ∷ 7 ∷ [])
    ∷ row
    (closing (closed_session (session stick_a 1)) 52223 59 ++ (closing (session stick_a 1) 52223 59 ++ closing (session stick_a 1) 52224 59))
    (20 ∷ 7 ∷ 2 ∷ 7 ∷ 4 ∷ 7 ∷ [])
    -- Numbers are four bytes, most significant first, and the mark is four bytes FF.
    ∷ row (number_at 1 (9 ∷ 1 ∷ 2 ∷ 3 ∷ 4 ∷ 9 ∷ []) ∷ four_bytes 0x01020304) (0x01020304 ∷ 1 ∷ 2 ∷ 3 ∷ 4 ∷ [])
    ∷ row (four_bytes unmapped) (replicate 4 0xFF)
    -- A: header 14 begins at device block 29, its map at block 30. P 253 (m 2): header 1 at block 4, its map at block 5.
    ∷ row (header_start stick_a 14 ∷ map_start stick_a 14 ∷ []) ((29 * 1024) ∷ (30 * 1024) ∷ [])
    ∷ row (header_start (sized 1024 4 253) 1 ∷ map_start (sized 1024 4 253) 1 ∷ []) ((4 * 1024) ∷ (5 * 1024) ∷ [])
    -- A: the IV of block 3 of slice 2 is bytes 48 to 63 of device block 41, its blocks 0 and 1 are device blocks 42 and 43.
    ∷ row (iv_start stick_a 2 3 ∷ block_start stick_a 2 0 ∷ block_start stick_a 2 1 ∷ []) ((41 * 1024 + 48) ∷ (42 * 1024) ∷ (43 * 1024) ∷ [])
    -- A: no key and 16 keys are 23, 1 and 15 are served; keys of another length are 3, a short tape 21 (document 02, P1).
    ∷ row (formats 0 0 60000 ∷ formats 16 512 60000 ∷ formats 1 32 60000 ∷ formats 15 480 60000 ∷ []) (23 ∷ 23 ∷ 0 ∷ 0 ∷ [])
    ∷ row (formats 2 63 60000 ∷ formats 2 64 52431 ∷ formats 2 64 52432 ∷ []) (3 ∷ 21 ∷ 0 ∷ [])
    -- A: formatting takes 52,224 + 104 tape bytes with 1 key, 52,224 + 15 × 104 with 15 (document 02, P1); P 253 (m 2): 120 for each.
    ∷ row (format_need stick_a 1 ∷ format_need stick_a 15 ∷ format_need (sized 1024 4 253) 2 ∷ [])
    (52328 ∷ 53784 ∷ (device_length (sized 1024 4 253) + 240) ∷ [])
    -- A: address 13 is offset 1 of logical slice 3.
    ∷ row (slice_of stick_a 13 ∷ offset_of stick_a 13 ∷ []) (3 ∷ 1 ∷ [])
    ∷ []

-- The claim: in every row the definitions give what the document says.
abbrev pub AllHold : List Case → Type 0
AllHold [] = Unit
AllHold (c ∷ cs) = (c.given ≡ c.says) × AllHold cs
