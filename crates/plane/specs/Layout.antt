-- Pixels in a list of bytes that holds four planes of bits, one after the other. Plane k has the weight 2 ^ k.
-- Assumes nothing.
use Rattle.std.specs.Prelude.{◌≡◌, ℕ, zero, suc, ◌+◌, ◌-◌, ◌*◌, ◌/◌, ◌%◌, ◌^◌, ◌<◌, ◌≤◌, min, false, List, [], ◌∷◌, slice_index}
use Rattle.surface.specs.Picture.{Picture}

-- the bytes of a row of a plane
abbrev pub row_bytes_lem : ℕ → ℕ
row_bytes_lem width = (width + 7) / 8

-- the bytes of a plane
abbrev pub plane_bytes_lem : ℕ → ℕ → ℕ
plane_bytes_lem width height = height * row_bytes_lem width

-- bit i of a byte; bit 0 is the top one
abbrev pub bit_of : ℕ → ℕ → ℕ
bit_of byte i = byte / 2 ^ (7 - i) % 2

-- the bit of pixel (x, y) on plane k: which byte, and which bit of it
abbrev pub plane_bit : ℕ → ℕ → List ℕ → ℕ → ℕ → ℕ → ℕ
plane_bit width height bytes k x y = bit_of (slice_index bytes (k * plane_bytes_lem width height + y * row_bytes_lem width + x / 8)) (x % 8)

-- the ink of pixel (x, y)
abbrev pub ink_at_lem : ℕ → ℕ → List ℕ → ℕ → ℕ → ℕ
ink_at_lem width height bytes x y =
    plane_bit width height bytes 0 x y + 2 * plane_bit width height bytes 1 x y + 4 * plane_bit width height bytes 2 x y + 8 * plane_bit width height bytes 3 x y

-- the picture of these sides: a pixel's ink is the sum of its four bits, and shows at once
abbrev pub pictured : ℕ → ℕ → List ℕ → Picture
pictured width height bytes = record {
  wide = width;
  high = height;
  taken = ink_at_lem width height bytes;
  shown = ink_at_lem width height bytes;
  waits = λ x y. false;
}

-- a place behind the last pixel of a row, in the row's last byte
pub record Spare (width height : ℕ) : Type 0 where
  pub plane : ℕ
  pub column : ℕ
  pub row : ℕ
  pub of_four : plane < 4
  pub below : row < height
  pub from : width ≤ column
  pub to : column < 8 * row_bytes_lem width

-- the spare bits are 0
abbrev pub SpareClear : ℕ → ℕ → List ℕ → Type 0
SpareClear width height bytes = (s : Spare width height) → plane_bit width height bytes s.plane s.column s.row ≡ 0

-- the bits lo to hi - 1 of a byte are the bit, those above and those below as before
unfoldable pub byte_written : ℕ → ℕ → ℕ → ℕ → ℕ
byte_written lo hi bit byte = byte / 2 ^ (8 - lo) * 2 ^ (8 - lo) + bit * (2 ^ (8 - lo) - 2 ^ (8 - hi)) + byte % 2 ^ (8 - hi)

-- of a list of bytes, the bits from one number on and before another are the bit, the others as before;
-- bit 0 is the top one of the first byte, bit 8 that of the second
unfoldable pub bits_written : ℕ → ℕ → ℕ → List ℕ → List ℕ
bits_written from to bit [] = []
bits_written from to bit (byte ∷ bytes) = byte_written (min 8 from) (min 8 to) bit byte ∷ bits_written (from - 8) (to - 8) bit bytes

-- the first planes, of so many bits each: in each the n bits from a bit of it on are the plane's bit of the ink
unfoldable pub planes_written : ℕ → ℕ → ℕ → ℕ → ℕ → List ℕ → List ℕ
planes_written zero bits from n ink bytes = bytes
planes_written (suc k) bits from n ink bytes =
    bits_written (k * bits + from) (k * bits + from + n) (ink / 2 ^ k % 2) (planes_written k bits from n ink bytes)

-- a run of n pixels from (x, y) to the right, in all four planes
abbrev pub painted : ℕ → ℕ → ℕ → ℕ → ℕ → ℕ → List ℕ → List ℕ
painted width height x y n ink = planes_written 4 (8 * plane_bytes_lem width height) (8 * (y * row_bytes_lem width) + x) n ink
