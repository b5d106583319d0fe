-- The split's registers, when it is active, and what its state may be.
use Rattle.std.specs.Prelude.{ℕ, ◌%◌, Bool, false, ◌&&◌, leb}
use Rattle.split.specs.declared.VSplit.{VSplit}
use Rattle.memory.specs.Bits.{bit_set}

-- 01, module 10: "all else 0, off, none or sprite"; the Rust's side after load is the left one.
abbrev pub split_at_load : VSplit
split_at_load = record { mode = 0; enabled = false; right = false; tile = 0; scroll = 0; bank = 0; in_region = false; tile_addr = 0 }

-- $5200, in the Rust: "[ES.T TTTT] Split control", E enables, S set is the right side, T is the tile to split at.
abbrev pub with_control : VSplit → ℕ → VSplit
with_control v n =
    record { mode = n; enabled = bit_set n 7; right = bit_set n 6; tile = n % 32; scroll = v.scroll; bank = v.bank; in_region = v.in_region; tile_addr = v.tile_addr }

-- $5201, in the Rust: "[YYYY YYYY] Split Y scroll".
abbrev pub with_scroll : VSplit → ℕ → VSplit
with_scroll v n =
    record { mode = v.mode; enabled = v.enabled; right = v.right; tile = v.tile; scroll = n; bank = v.bank; in_region = v.in_region; tile_addr = v.tile_addr }

-- $5202, in the Rust: "[CCCC CCCC] 4k CHR Page for split".
abbrev pub with_bank : VSplit → ℕ → VSplit
with_bank v n =
    record { mode = v.mode; enabled = v.enabled; right = v.right; tile = v.tile; scroll = v.scroll; bank = n; in_region = v.in_region; tile_addr = v.tile_addr }

-- 01, module 8: "Active when enabled, with nametable use, in frame".
abbrev pub split_active : VSplit → Bool → Bool → Bool
split_active v nametable framed = v.enabled && (nametable && framed)

-- 01, "STATE ranges": "split tile 0-31; tile address 0-959".
abbrev pub split_ranges : VSplit → Bool
split_ranges v = leb v.tile 31 && leb v.tile_addr 959
