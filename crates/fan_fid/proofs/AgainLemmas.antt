-- What is written of an event's object is read again.
use Rattle.std.proofs.Common.{◌≡◌, ℕ, ◌+◌, ◌^◌, ◌<◌, ◌≤◌, List, [], ◌∷◌, ◌++◌, length, take, drop, replicate, Option, Some, None, refl, sym, ap, subst, ◌∙◌, append_assoc, arith}
use Rattle.std.specs.Prelude.{Contains, IfSome}
use Rattle.std.proofs.lemmas.List.{append-nil, take_at, drop_at, length-append, length-replicate, length-drop, drop-append-le, get_or_at}
use Rattle.byteorder.specs.Endian.{little_number}
use Rattle.byteorder.specs.Numbers.{little_number-reads_back, little_from-append}
use Rattle.fan_event.specs.Names.{IsName}
use Rattle.fan_event.specs.declared.target.Target.{Target}
use Rattle.fan_event.specs.declared.target.Target.TheVariants.{Fd, Handle}
use Rattle.fan_record.specs.Fields.{u16_at}
use Rattle.fan_record.specs.Infos.{AreInfos, IsInfo, handle_end, info_type}
use Rattle.fan_fid.specs.Again.{IsWritable, dir_parts, ident_parts, object_parts, target_parts}
use Rattle.fan_fid.specs.Infos.{InfoParts, SpellsIdent, SpellsInfo, SpellsInfos, SpellsName, SpellsParts, len_at, info_end}
use Rattle.fan_fid.specs.Infos.InfoParts.{fid, dfid, dfid_name}
use Rattle.fan_fid.specs.Written.{dfid_name_bytes, dir_bytes, ident_bytes, infos_of, name_bytes, object_bytes, padding}
use Rattle.fan_fid.proofs.WrittenLemmas.{ident_len, dfid_name_len}

-- ---- one information record

-- with what is behind its handle
is-info : (kind len fs inode : ℕ) (more : List ℕ) → len ≡ 28 + length more → len < 2 ^ 16
    → (kind ≡ 2 → Contains more 0) → IsInfo (ident_bytes kind len fs inode ++ more)
unfolding ident_bytes
is-info kind len fs inode more whole fits name =
    let long : length (ident_bytes kind len fs inode ++ more) ≡ 28 + length more = omega arith in
    let read : u16_at 2 (ident_bytes kind len fs inode ++ more) ≡ len =
    little_number-reads_back 2 len (drop 4 (ident_bytes kind len fs inode ++ more)) fits in
    record { header = omega arith; len = read ∙ whole ∙ sym long; handle = λ _. omega arith; name = name }

-- with nothing behind it
is-bare-info : (kind fs inode : ℕ) → (kind ≡ 2 → ⊥) → IsInfo (ident_bytes kind 28 fs inode)
is-bare-info kind fs inode other_kind =
    subst IsInfo (append-nil (ident_bytes kind 28 fs inode))
    (is-info kind 28 fs inode [] refl (omega arith) (λ same. absurd (other_kind same)))

-- its file or directory, and its type
is-ident : (kind len fs inode : ℕ) (more : List ℕ)
    → SpellsIdent (ident_bytes kind len fs inode ++ more) (ident_parts fs inode)
unfolding ident_bytes
is-ident kind len fs inode more = record { fsid = refl; handle_type = refl; handle = refl }

is-bare-ident : (kind len fs inode : ℕ) → SpellsIdent (ident_bytes kind len fs inode) (ident_parts fs inode)
unfolding ident_bytes
is-bare-ident kind len fs inode = record { fsid = refl; handle_type = refl; handle = refl }

has-type : (kind len fs inode : ℕ) (more : List ℕ) → info_type (ident_bytes kind len fs inode ++ more) ≡ kind
unfolding ident_bytes
has-type kind len fs inode more = refl

has-bare-type : (kind len fs inode : ℕ) → info_type (ident_bytes kind len fs inode) ≡ kind
unfolding ident_bytes
has-bare-type kind len fs inode = refl

-- a name has a 0 behind it
has-end : (name : List ℕ) → Contains (name_bytes name) 0
has-end name =
    let zeros : List ℕ = replicate (padding (length name + 1)) 0 in
    (length name, omega (arith, length-append name (0 ∷ zeros)), get_or_at name 0 zeros 0 (length name) refl)

-- and 4 zeros at most
name-short : (name : List ℕ) → IsName name → length (name_bytes name) ≤ 259
name-short name is =
    let zeros : List ℕ = replicate (padding (length name + 1)) 0 in
    let few : length zeros ≡ padding (length name + 1) = length-replicate (padding (length name + 1)) 0 in
    omega (arith, length-append name (0 ∷ zeros), few, is.most)

is-named-info : (fs inode : ℕ) (name : List ℕ) → IsName name → IsInfo (dfid_name_bytes fs inode name)
is-named-info fs inode name is =
    is-info 2 (28 + length (name_bytes name)) fs inode (name_bytes name) refl
    (omega (arith, name-short name is)) (λ _. has-end name)

-- the name ends before the first of them
is-named : (fs inode len : ℕ) (name : List ℕ) → IsName name
    → let info = ident_bytes 2 len fs inode ++ name_bytes name in SpellsName (drop (handle_end info) info) name
unfolding ident_bytes
is-named fs inode len name is = record {
  rest = replicate (padding (length name + 1)) 0;
  ends = refl;
  first = λ there. is.each there.0 0 there.1 there.2;
}

-- ---- one between others

-- the length at 2 is read in the front
len-in-front : (info rest : List ℕ) → 4 ≤ length info → u16_at 2 (info ++ rest) ≡ u16_at 2 info
len-in-front info rest least =
    ap (little_number 2) (drop-append-le 2 info rest (omega arith))
    ∙ little_from-append 2 (drop 2 info) rest (omega (arith, length-drop 2 info))

-- it is as long as it says
len-between : (before info rest : List ℕ) → IsInfo info
    → len_at (before ++ (info ++ rest)) (length before) ≡ length info
len-between before info rest is =
    ap (u16_at 2) (drop_at before (info ++ rest) (length before) refl) ∙ len-in-front info rest is.header ∙ is.len

-- it is spelled at its place
between : (before info rest : List ℕ) (parts : InfoParts) → IsInfo info → SpellsParts info parts
    → SpellsInfo (before ++ (info ++ rest)) (length before) parts
between before info rest parts is spelled =
    let bytes = before ++ (info ++ rest) in
    let behind : drop (length before) bytes ≡ info ++ rest = drop_at before (info ++ rest) (length before) refl in
    let len : len_at bytes (length before) ≡ length info = len-between before info rest is in
    let front : take (len_at bytes (length before)) (drop (length before) bytes) ≡ info =
    ap (λ (n : ℕ). take n (drop (length before) bytes)) len
    ∙ ap (take (length info)) behind ∙ take_at info rest (length info) refl in
    record {
      whole = record {
        within = omega (arith, len, ap length behind, length-append info rest);
        info = subst IsInfo (sym front) is;
      };
      spelled = subst (λ (text : List ℕ). SpellsParts text parts) (sym front) spelled;
    }

-- it is spelled in front of others
before-others : (before info rest : List ℕ) (parts : InfoParts) (end : ℕ) (more : List InfoParts)
    → IsInfo info → SpellsParts info parts
    → SpellsInfos ((before ++ info) ++ rest) (length (before ++ info)) end more
    → SpellsInfos (before ++ (info ++ rest)) (length before) end (parts ∷ more)
before-others before info rest parts end more is spelled others =
    let bytes = before ++ (info ++ rest) in
    let place : length (before ++ info) ≡ info_end bytes (length before) =
    length-append before info ∙ ap (λ (n : ℕ). length before + n) (sym (len-between before info rest is)) in
    let at = length (before ++ info) in
    let same = subst (λ (text : List ℕ). SpellsInfos text at end more) (append_assoc before info rest) others in
    (between before info rest parts is spelled, subst (λ (at : ℕ). SpellsInfos bytes at end more) place same)

-- ---- the object of an event

objects-again : (before rest : List ℕ) (fs : ℕ) (object : Option ℕ)
    → SpellsInfos (before ++ (object_bytes fs object ++ rest)) (length before)
    (length before + length (object_bytes fs object)) (object_parts fs object)
objects-again before rest fs None = omega arith
objects-again before rest fs (Some object) =
    let info = ident_bytes 1 28 fs object in
    let is = is-bare-info 1 fs object (λ e. cc) in
    before-others before info rest (fid (ident_parts fs object)) (length before + length info) [] is
    (has-bare-type 1 28 fs object, is-bare-ident 1 28 fs object) (length-append before info)

dirs-again : (before rest : List ℕ) (fs : ℕ) (dir : Option ℕ) (name : Option (List ℕ)) (end : ℕ)
    (more : List InfoParts) → IfSome name IsName
    → SpellsInfos ((before ++ dir_bytes fs dir name) ++ rest) (length (before ++ dir_bytes fs dir name)) end more
    → SpellsInfos (before ++ (dir_bytes fs dir name ++ rest)) (length before) end (dir_parts fs dir name ++ more)
dirs-again before rest fs None name end more is others =
    subst (λ (front : List ℕ). SpellsInfos (front ++ rest) (length front) end more) (append-nil before) others
dirs-again before rest fs (Some dir) None end more is others =
    let is_info = is-bare-info 3 fs dir (λ e. cc) in
    before-others before (ident_bytes 3 28 fs dir) rest (dfid (ident_parts fs dir)) end more is_info
    (has-bare-type 3 28 fs dir, is-bare-ident 3 28 fs dir) others
dirs-again before rest fs (Some dir) (Some name) end more is others =
    let len = 28 + length (name_bytes name) in
    let info = is-named-info fs dir name is in
    let ident = is-ident 2 len fs dir (name_bytes name) in
    before-others before (dfid_name_bytes fs dir name) rest (dfid_name (ident_parts fs dir) name) end more info
    (has-type 2 len fs dir (name_bytes name), ident, is-named fs dir len name is) others

-- what was written is read again
pub read-again : (before rest : List ℕ) (target : Target) → IsWritable target
    → SpellsInfos (before ++ (infos_of target ++ rest)) (length before)
    (length before + length (infos_of target)) (target_parts target)
read-again before rest (Fd mount inode) can = omega arith
read-again before rest (Handle fs object dir name) can =
    let dirs = dir_bytes fs dir name in
    let objects = object_bytes fs object in
    let parts = target_parts (Handle fs object dir name) in
    let end = length (before ++ dirs) + length objects in
    let all = dirs-again before (objects ++ rest) fs dir name end (object_parts fs object) can
    (objects-again (before ++ dirs) rest fs object) in
    let regrouped = ap (λ (text : List ℕ). before ++ text) (sym (append_assoc dirs objects rest)) in
    let same_end : end ≡ length before + length (dirs ++ objects) =
    omega (arith, length-append before dirs, length-append dirs objects) in
    subst (λ (stop : ℕ). SpellsInfos (before ++ ((dirs ++ objects) ++ rest)) (length before) stop parts) same_end
    (subst (λ (text : List ℕ). SpellsInfos text (length before) end parts) regrouped all)

-- ---- they fill a record

-- one more in front
one-more : (info rest : List ℕ) → IsInfo info → AreInfos rest → AreInfos (info ++ rest)
one-more info rest is others = record {
  infos = info ∷ others.infos;
  each = (is, others.each);
  joined = ap (λ (text : List ℕ). info ++ text) others.joined;
}

none-fill : AreInfos []
none-fill = record { infos = []; each = tt; joined = refl }

objects-fill : (fs : ℕ) (object : Option ℕ) → AreInfos (object_bytes fs object)
objects-fill fs None = none-fill
objects-fill fs (Some object) =
    subst AreInfos (append-nil (ident_bytes 1 28 fs object))
    (one-more (ident_bytes 1 28 fs object) [] (is-bare-info 1 fs object (λ e. cc)) none-fill)

dirs-fill : (fs : ℕ) (dir : Option ℕ) (name : Option (List ℕ)) (rest : List ℕ) → IfSome name IsName → AreInfos rest
    → AreInfos (dir_bytes fs dir name ++ rest)
dirs-fill fs None name rest is others = others
dirs-fill fs (Some dir) None rest is others =
    one-more (ident_bytes 3 28 fs dir) rest (is-bare-info 3 fs dir (λ e. cc)) others
dirs-fill fs (Some dir) (Some name) rest is others =
    one-more (dfid_name_bytes fs dir name) rest (is-named-info fs dir name is) others

-- what is written of an event's object are information records
pub targets-fill : (target : Target) → IsWritable target → AreInfos (infos_of target)
targets-fill (Fd mount inode) can = none-fill
targets-fill (Handle fs object dir name) can =
    dirs-fill fs dir name (object_bytes fs object) can (objects-fill fs object)

-- and they are few
objects-short : (fs : ℕ) (object : Option ℕ) → length (object_bytes fs object) ≤ 28
objects-short fs None = omega arith
objects-short fs (Some object) = omega (arith, ident_len 1 28 fs object)

dirs-short : (fs : ℕ) (dir : Option ℕ) (name : Option (List ℕ)) → IfSome name IsName
    → length (dir_bytes fs dir name) ≤ 287
dirs-short fs None name is = omega arith
dirs-short fs (Some dir) None is = omega (arith, ident_len 3 28 fs dir)
dirs-short fs (Some dir) (Some name) is = omega (arith, dfid_name_len fs dir name, name-short name is)

pub targets-short : (target : Target) → IsWritable target → length (infos_of target) ≤ 315
targets-short (Fd mount inode) can = omega arith
targets-short (Handle fs object dir name) can =
    let dirs = dirs-short fs dir name can in
    let objects = objects-short fs object in
    omega (arith, length-append (dir_bytes fs dir name) (object_bytes fs object))
