-- Two events have the same key exactly if they have the same process or thread, directory bit and object.
use Rattle.std.proofs.Common.{◌≡◌, ◌∙◌, ℕ, Bool, true, false, Option, Some, None, refl, sym, ap, ◌==◌, ◌&&◌, nat_eq}
use Rattle.std.proofs.lemmas.Bool.Decides.{Decides-and, Decides-eqb, Decides-like}
use Rattle.std.specs.Bool.{Decides, beq}
use Rattle.std.specs.Cmp.Lexicographic.{bytes_decides, pointwise}
use Rattle.std.specs.Option.{option_eq}
use Rattle.fan_event.specs.declared.event.Event.{Event}
use Rattle.fan_event.specs.declared.target.Target.{Target}
use Rattle.fan_event.specs.declared.target.Target.TheVariants.{Fd, Handle}
use Rattle.fan_event.specs.Events.{with_bits}
use Rattle.fan_event.specs.Keys.{same_key, same_name, same_target}

-- what two events with the same key have in common
pub record IsSameKey (a b : Event) : Type 0 where
  pub who : a.who ≡ b.who
  pub ondir : a.ondir ≡ b.ondir
  pub target : a.target ≡ b.target

-- where a test decides whether two values are the same, so does that of two optional ones
options_decide : {X : Type 0} (test : X → X → Bool) → ((x y : X) → Decides (test x y) (x ≡ y))
    → (a b : Option X) → Decides (option_eq test a b) (a ≡ b)
options_decide test each None None = (λ same. refl, λ is. refl)
options_decide test each None (Some y) = (λ same. absurd cc, λ is. absurd cc)
options_decide test each (Some x) None = (λ same. absurd cc, λ is. absurd cc)
options_decide test each (Some x) (Some y) =
    Decides-like (test x y) (λ is. ap (λ z. Some z) is) (λ is. cc) (each x y)

bits_decide : (a b : Bool) → Decides (beq a b) (a ≡ b)
bits_decide true true = (λ same. refl, λ is. refl)
bits_decide true false = (λ same. absurd cc, λ is. absurd cc)
bits_decide false true = (λ same. absurd cc, λ is. absurd cc)
bits_decide false false = (λ same. refl, λ is. refl)

targets_decide : (a b : Target) → Decides (same_target a b) (a ≡ b)
targets_decide (Fd mount inode) (Fd mount' inode') =
    Decides-like (mount == mount' && inode == inode') (λ both. cc) (λ is. (cc, cc))
    (Decides-and (mount == mount') (inode == inode') (Decides-eqb mount mount') (Decides-eqb inode inode'))
targets_decide (Fd mount inode) (Handle fs object dir name) = (λ same. absurd cc, λ is. absurd cc)
targets_decide (Handle fs object dir name) (Fd mount inode) = (λ same. absurd cc, λ is. absurd cc)
targets_decide (Handle fs object dir name) (Handle fs' object' dir' name') =
    let filesystems = fs == fs' in
    let objects = option_eq nat_eq object object' in
    let dirs = option_eq nat_eq dir dir' in
    let names = same_name name name' in
    Decides-like (filesystems && objects && dirs && names) (λ all. cc) (λ is. (((cc, cc), cc), cc))
    (Decides-and (filesystems && objects && dirs) names
    (Decides-and (filesystems && objects) dirs
    (Decides-and filesystems objects (Decides-eqb fs fs') (options_decide nat_eq Decides-eqb object object'))
    (options_decide nat_eq Decides-eqb dir dir'))
    (options_decide (pointwise nat_eq) bytes_decides name name'))

-- a key is a process or thread, a directory bit and an object
pub same_key_decides : (a b : Event) → Decides (same_key a b) (IsSameKey a b)
same_key_decides a b =
    Decides-like (same_key a b) (λ all. record { who = all.0.0; ondir = all.0.1; target = all.1 })
    (λ same. ((same.who, same.ondir), same.target))
    (Decides-and (a.who == b.who && beq a.ondir b.ondir) (same_target a.target b.target)
    (Decides-and (a.who == b.who) (beq a.ondir b.ondir) (Decides-eqb a.who b.who)
    (bits_decide a.ondir b.ondir))
    (targets_decide a.target b.target))

-- an event has the key of itself
pub same_key-refl : (a : Event) → same_key a a ≡ true
same_key-refl a = (same_key_decides a a).1 (record { who = refl; ondir = refl; target = refl })

-- with the same key as another, it is exchangeable where keys are compared
pub same_key-left : (a b c : Event) → same_key a b ≡ true → same_key a c ≡ same_key b c
same_key-left a b c same =
    let key = (same_key_decides a b).0 same in rw (key.who, key.ondir, key.target) refl

-- the order of two events doesn't matter
pub same_key-sym : (a b : Event) → same_key a b ≡ true → same_key b a ≡ true
same_key-sym a b same = sym (same_key-left a b a same) ∙ same_key-refl a

-- nor what stands between two
pub same_key-trans : (a b c : Event) → same_key a b ≡ true → same_key b c ≡ true → same_key a c ≡ true
same_key-trans a b c first second = same_key-left a b c first ∙ second

-- further bits leave the key
pub same_key-with_bits : (bits : ℕ) (a b : Event) → same_key (with_bits bits a) b ≡ same_key a b
same_key-with_bits bits a b = refl

-- and so does being a permission event or not
pub same_key-perm : (perm : Bool) (a b : Event) → same_key (record a { perm = perm }) b ≡ same_key a b
same_key-perm perm a b = refl
