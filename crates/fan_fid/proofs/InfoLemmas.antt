-- At most one information record is spelled at a place, and an input has one reading.
use Rattle.std.proofs.Common.{◌≡◌, ℕ, suc, ℤ, ◌≤◌, List, [], ◌∷◌, ◌++◌, take, drop, refl, sym, ap, subst, ◌∙◌, arith}
use Rattle.std.specs.Prelude.{Contains}
use Rattle.fan_record.specs.Infos.{HasHandle, handle_end}
use Rattle.fan_fid.specs.Infos.{NoInfo, ReadsInfos, SpellsInfos, info_end, IdentParts, InfoParts, SpellsIdent, SpellsInfo, SpellsName, SpellsParts, len_at}
use Rattle.fan_fid.specs.Infos.InfoParts.{fid, dfid, dfid_name, other}

-- where a list that has a 0 begins with it, what stands before isn't empty
zero-first : (byte : ℕ) (name : List ℕ) → (Contains (byte ∷ name) 0 → ⊥) → byte ≡ 0 → ⊥
zero-first byte name none zero_there = none (0, omega arith, zero_there)

-- the rest of a name has no 0
none-behind : (byte : ℕ) (name : List ℕ) → (Contains (byte ∷ name) 0 → ⊥) → Contains name 0 → ⊥
none-behind byte name none there = none (suc there.0, omega (arith, there.1), there.2)

-- a text has one front before its first 0
one-split : (m n a b : List ℕ) → (Contains m 0 → ⊥) → (Contains n 0 → ⊥) → m ++ 0 ∷ a ≡ n ++ 0 ∷ b → m ≡ n
one-split [] [] a b p q e = refl
one-split [] (y ∷ n) a b p q e = let zero_there : y ≡ 0 = cc in absurd (zero-first y n q zero_there)
one-split (x ∷ m) [] a b p q e = let zero_there : x ≡ 0 = cc in absurd (zero-first x m p zero_there)
one-split (x ∷ m) (y ∷ n) a b p q e =
    let first : x ≡ y = cc in
    let others : m ++ 0 ∷ a ≡ n ++ 0 ∷ b = cc in
    let rest : m ≡ n = one-split m n a b (none-behind x m p) (none-behind y n q) others in
    cc

-- a text has one name
one-name : (text m n : List ℕ) → SpellsName text m → SpellsName text n → m ≡ n
one-name text m n p q = one-split m n p.rest q.rest p.first q.first (sym p.ends ∙ q.ends)

abbrev made : List ℕ → ℤ → List ℕ → IdentParts
made fsid handle_type handle = record { fsid = fsid; handle_type = handle_type; handle = handle }

same-idents : (f g : List ℕ) (s t : ℤ) (h k : List ℕ) → f ≡ g → s ≡ t → h ≡ k → made f s h ≡ made g t k
same-idents f g s t h k fsid handle_type handle = cc

-- an information record tells of one file or directory
one-ident : (info : List ℕ) (p q : IdentParts) → SpellsIdent info p → SpellsIdent info q → p ≡ q
one-ident info p q a b =
    same-idents p.fsid q.fsid p.handle_type q.handle_type p.handle q.handle
    (a.fsid ∙ sym b.fsid) (a.handle_type ∙ sym b.handle_type) (a.handle ∙ sym b.handle)

-- types 1 to 3 have a handle
handled : (kind n : ℕ) → kind ≡ n → 1 ≤ n → n ≤ 3 → HasHandle kind
handled kind n is least most = record { least = omega arith; most = omega arith }

-- an information record spells one thing
one-parts : (info : List ℕ) (p q : InfoParts) → SpellsParts info p → SpellsParts info q → p ≡ q
one-parts info (fid p) (fid q) a b = ap fid (one-ident info p q a.1 b.1)
one-parts info (fid p) (dfid q) a b = absurd cc
one-parts info (fid p) (dfid_name q n) a b = absurd cc
one-parts info (fid p) (other k ys) a b = absurd (b.1 (handled k 1 (sym b.0 ∙ a.0) (omega arith) (omega arith)))
one-parts info (dfid p) (fid q) a b = absurd cc
one-parts info (dfid p) (dfid q) a b = ap dfid (one-ident info p q a.1 b.1)
one-parts info (dfid p) (dfid_name q n) a b = absurd cc
one-parts info (dfid p) (other k ys) a b = absurd (b.1 (handled k 3 (sym b.0 ∙ a.0) (omega arith) (omega arith)))
one-parts info (dfid_name p m) (fid q) a b = absurd cc
one-parts info (dfid_name p m) (dfid q) a b = absurd cc
one-parts info (dfid_name p m) (dfid_name q n) a b =
    let ident : p ≡ q = one-ident info p q a.1 b.1 in
    let name : m ≡ n = one-name (drop (handle_end info) info) m n a.2 b.2 in
    cc
one-parts info (dfid_name p m) (other k ys) a b = absurd (b.1 (handled k 2 (sym b.0 ∙ a.0) (omega arith) (omega arith)))
one-parts info (other j xs) (fid q) a b = absurd (a.1 (handled j 1 (sym a.0 ∙ b.0) (omega arith) (omega arith)))
one-parts info (other j xs) (dfid q) a b = absurd (a.1 (handled j 3 (sym a.0 ∙ b.0) (omega arith) (omega arith)))
one-parts info (other j xs) (dfid_name q n) a b = absurd (a.1 (handled j 2 (sym a.0 ∙ b.0) (omega arith) (omega arith)))
one-parts info (other j xs) (other k ys) a b =
    let kind : j ≡ k = sym a.0 ∙ b.0 in
    let bytes : xs ≡ ys = a.2 ∙ sym b.2 in
    cc

-- at most one information record is spelled at a place
pub one-at-most : (bytes : List ℕ) (at : ℕ) (p q : InfoParts) → SpellsInfo bytes at p → SpellsInfo bytes at q → p ≡ q
one-at-most bytes at p q a b = one-parts (take (len_at bytes at) (drop at bytes)) p q a.spelled b.spelled

-- where no information record is spelled, none is
absent : (bytes : List ℕ) (at stop : ℕ) (parts : InfoParts) → at ≡ stop → NoInfo bytes stop
    → SpellsInfo bytes at parts → ⊥
absent bytes at stop parts same none spelled =
    none parts (subst (λ (place : ℕ). SpellsInfo bytes place parts) same spelled)

-- information records that are followed by none are all that there are
one-run : (bytes : List ℕ) (at m n : ℕ) (p q : List InfoParts) → SpellsInfos bytes at m p → SpellsInfos bytes at n q
    → NoInfo bytes m → NoInfo bytes n → (p ≡ q) × (m ≡ n)
one-run bytes at m n [] [] a b none_m none_n = (refl, sym a ∙ b)
one-run bytes at m n [] (y ∷ q) a b none_m none_n = absurd (absent bytes at m y a none_m b.0)
one-run bytes at m n (x ∷ p) [] a b none_m none_n = absurd (absent bytes at n x b none_n a.0)
one-run bytes at m n (x ∷ p) (y ∷ q) a b none_m none_n =
    let first : x ≡ y = one-at-most bytes at x y a.0 b.0 in
    let others = one-run bytes (info_end bytes at) m n p q a.1 b.1 none_m none_n in
    let rest : p ≡ q = others.0 in
    (cc, others.1)

-- an input has one reading
pub one-reading : (bytes : List ℕ) (p q : List InfoParts) (m n : ℕ) → ReadsInfos bytes p m → ReadsInfos bytes q n
    → (p ≡ q) × (m ≡ n)
one-reading bytes p q m n a b = one-run bytes 0 m n p q a.spelled b.spelled a.none b.none
