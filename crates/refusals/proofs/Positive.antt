-- No refusal has the number 0, which stands for served. Assumes nothing.
use Prim.Native.Nat.{◌<◌}
use native.Mathlib.Omega.{arith}
use Rattle.refusals.specs.Numbers.{refusal_number}
use Rattle.refusals.specs.declared.Refusal.{Refusal}
use Rattle.refusals.specs.declared.Refusal.TheVariants.{BadGeometry, DeviceLength, KeyLength, TableLength, BadPermutation, NoCell, HeaderTag}
use Rattle.refusals.specs.declared.Refusal.TheVariants.{HeaderGeometry, BadEntry, SliceTwice, VolumeAbove, AddressAbove, WrongLength}
use Rattle.refusals.specs.declared.Refusal.TheVariants.{MalformedLine, TagDiffers, NotOpen, TapeShort, NoFreeSlice, KeyCount, LowerCell}
use Rattle.refusals.specs.declared.Refusal.TheVariants.{SliceUnmapped}

pub refusal_positive : (r : Refusal) → 0 < refusal_number r
refusal_positive BadGeometry = omega arith
refusal_positive DeviceLength = omega arith
refusal_positive KeyLength = omega arith
refusal_positive TableLength = omega arith
refusal_positive BadPermutation = omega arith
refusal_positive NoCell = omega arith
refusal_positive HeaderTag = omega arith
refusal_positive HeaderGeometry = omega arith
refusal_positive BadEntry = omega arith
refusal_positive SliceTwice = omega arith
refusal_positive VolumeAbove = omega arith
refusal_positive AddressAbove = omega arith
refusal_positive WrongLength = omega arith
refusal_positive MalformedLine = omega arith
refusal_positive TagDiffers = omega arith
refusal_positive NotOpen = omega arith
refusal_positive TapeShort = omega arith
refusal_positive NoFreeSlice = omega arith
refusal_positive KeyCount = omega arith
refusal_positive LowerCell = omega arith
refusal_positive SliceUnmapped = omega arith
