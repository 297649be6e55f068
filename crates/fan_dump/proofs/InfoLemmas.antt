-- Information records that fill a part of a record, one after the other.
use Rattle.std.proofs.Common.{◌≡◌, ℕ, ◌+◌, ◌≤◌, List, [], ◌∷◌, ◌++◌, length, take, drop, refl, arith, append_assoc, append-nil}
use Rattle.std.proofs.lemmas.List.{length-take-le, length-drop}
use Rattle.fan_dump.specs.Texts.{info_text, infos_text}
use Rattle.fan_fid.proofs.InfoLemmas.{one-at-most}
use Rattle.fan_fid.specs.Infos.{SpellsInfos}
use Rattle.fan_fid.specs.Infos.{InfoParts, SpellsInfo, info_end, len_at}

-- an information record has four bytes at least
pub info_moves : (bytes : List ℕ) (at : ℕ) (parts : InfoParts) → SpellsInfo bytes at parts
    → at + 4 ≤ info_end bytes at
info_moves bytes at parts info =
    let size : length (take (len_at bytes at) (drop at bytes)) ≡ len_at bytes at =
    length-take-le (len_at bytes at) (drop at bytes) info.whole.within in
    omega (arith, info.whole.info.header, size)

-- and ends in the bytes
pub info_within : (bytes : List ℕ) (at : ℕ) (parts : InfoParts) → SpellsInfo bytes at parts
    → info_end bytes at ≤ length bytes
info_within bytes at parts info =
    omega (arith, info_moves bytes at parts info, info.whole.within, length-drop at bytes)

-- one more information record behind others
pub spelled_more : (bytes : List ℕ) (at mid : ℕ) (infos : List InfoParts) (info : InfoParts)
    → SpellsInfos bytes at mid infos → SpellsInfo bytes mid info
    → SpellsInfos bytes at (info_end bytes mid) (infos ++ info ∷ [])
spelled_more bytes at mid [] info spelled here = rw spelled (here, refl)
spelled_more bytes at mid (first ∷ infos) info spelled here =
    (spelled.0, spelled_more bytes (info_end bytes at) mid infos info spelled.1 here)

-- its line stands behind theirs
pub lines_more : (infos : List InfoParts) (info : InfoParts)
    → infos_text (infos ++ info ∷ []) ≡ infos_text infos ++ info_text info
lines_more [] info = append-nil (info_text info)
lines_more (first ∷ infos) info = rw (lines_more infos info) (simp append_assoc)

-- a part is filled in one way at most
pub same_infos : (bytes : List ℕ) (at : ℕ) (a b : List InfoParts) → SpellsInfos bytes at (length bytes) a
    → SpellsInfos bytes at (length bytes) b → a ≡ b
same_infos bytes at [] [] p q = refl
same_infos bytes at [] (info ∷ infos) p q =
    absurd (omega (arith, p, info_moves bytes at info q.0, info_within bytes at info q.0))
same_infos bytes at (info ∷ infos) [] p q =
    absurd (omega (arith, q, info_moves bytes at info p.0, info_within bytes at info p.0))
same_infos bytes at (x ∷ xs) (y ∷ ys) p q =
    let first : x ≡ y = one-at-most bytes at x y p.0 q.0 in
    let more : xs ≡ ys = same_infos bytes (info_end bytes at) xs ys p.1 q.1 in
    cc
