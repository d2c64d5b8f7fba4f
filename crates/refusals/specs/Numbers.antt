-- The refusals of document 01 by their numbers ("Refused for what was handed in", "Refused for how things stand"), and those of
-- document 02 from 23 on.
-- Assumes nothing.
use Rattle.std.specs.Prelude.{ℕ, zero, suc, Bool, true, false, Result, Ok, Err}
use Rattle.refusals.specs.declared.Refusal.{Refusal}
use Rattle.refusals.specs.declared.Refusal.TheVariants.{BadGeometry, DeviceLength, KeyLength, TableLength, BadPermutation, NoCell}
use Rattle.refusals.specs.declared.Refusal.TheVariants.{HeaderTag, HeaderGeometry, BadEntry, SliceTwice, VolumeAbove, AddressAbove}
use Rattle.refusals.specs.declared.Refusal.TheVariants.{WrongLength, MalformedLine, TagDiffers, NotOpen, TapeShort, NoFreeSlice}
use Rattle.refusals.specs.declared.Refusal.TheVariants.{KeyCount, LowerCell, SliceUnmapped}

-- The document's number of each refusal.
abbrev pub refusal_number : Refusal → ℕ
refusal_number BadGeometry = 1
refusal_number DeviceLength = 2
refusal_number KeyLength = 3
refusal_number TableLength = 4
refusal_number BadPermutation = 5
refusal_number NoCell = 6
refusal_number HeaderTag = 7
refusal_number HeaderGeometry = 8
refusal_number BadEntry = 9
refusal_number SliceTwice = 10
refusal_number VolumeAbove = 11
refusal_number AddressAbove = 12
refusal_number WrongLength = 13
refusal_number MalformedLine = 14
refusal_number TagDiffers = 15
refusal_number NotOpen = 20
refusal_number TapeShort = 21
refusal_number NoFreeSlice = 22
refusal_number KeyCount = 23
refusal_number LowerCell = 24
refusal_number SliceUnmapped = 25

-- The number of an answer: 0 where the call was served, whatever it hands back.
abbrev pub answer_number : {A : Type 0} → Result A Refusal → ℕ
answer_number (Ok x) = 0
answer_number (Err r) = refusal_number r

-- The first refusal that applies: the number where its condition holds, else what the rest says; 0 is no refusal.
unfoldable pub refuse : Bool → ℕ → ℕ → ℕ
refuse true number rest = number
refuse false number rest = rest

-- A buffer after a call: the new bytes where nothing was refused, else the old ones.
unfoldable pub unless_refused : {A : Type 0} → ℕ → A → A → A
unless_refused zero new old = new
unless_refused (suc n) new old = old
