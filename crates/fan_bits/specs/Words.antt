-- Words and their bits; the flags with which a group is made, and what they say of it: fanotify_init(2).
use Rattle.std.specs.Prelude.{◌≡◌, ℕ, ◌^◌, ◌==◌, Bool, true, not, ◌&&◌, ◌||◌, if◌then◌else◌, List, [], ◌∷◌, zero, suc, count_by}
use Rattle.std.specs.Int.{bit_at}
use Rattle.std.specs.List.{list_any}
use Rattle.fan_bits.specs.declared.class.Class.{Class}
use Rattle.fan_bits.specs.declared.class.Class.TheVariants.{PreContent, Content, Notif}

-- the word that has this bit alone; bits are numbered from 0
abbrev pub bit : ℕ → ℕ
bit number = 2 ^ number

-- the word has the bit with this number
unfoldable pub occurs : ℕ → ℕ → Bool
occurs word number = bit_at word number == 1

-- each number below this one passes a test
unfoldable pub all_below : ℕ → (ℕ → Bool) → Bool
all_below zero test = true
all_below (suc number) test = all_below number test && test number

-- the number is one of a list
abbrev pub is_among : ℕ → List ℕ → Bool
is_among number numbers = list_any (λ other. other == number) numbers

-- a word of so many bits has no bits but those of a list
unfoldable pub has_only : ℕ → List ℕ → ℕ → Bool
has_only width numbers word = all_below width (λ number. is_among number numbers || not (occurs word number))

-- a word has one of the bits of a list
unfoldable pub has_any : List ℕ → ℕ → Bool
has_any numbers word = list_any (λ number. occurs word number) numbers

-- a word has exactly one of the bits of a list
unfoldable pub has_one : List ℕ → ℕ → Bool
has_one numbers word = count_by (λ number. occurs word number) numbers == 1

-- the number of the bit FAN_CLOEXEC
abbrev pub cloexec : ℕ
cloexec = 0

-- the number of the bit FAN_NONBLOCK
abbrev pub nonblock : ℕ
nonblock = 1

-- the number of the bit FAN_CLASS_CONTENT
abbrev pub class_content : ℕ
class_content = 2

-- the number of the bit FAN_CLASS_PRE_CONTENT
abbrev pub class_pre_content : ℕ
class_pre_content = 3

-- the number of the bit FAN_UNLIMITED_QUEUE
abbrev pub unlimited_queue : ℕ
unlimited_queue = 4

-- the number of the bit FAN_UNLIMITED_MARKS
abbrev pub unlimited_marks : ℕ
unlimited_marks = 5

-- the number of the bit FAN_REPORT_TID
abbrev pub report_tid : ℕ
report_tid = 8

-- the number of the bit FAN_REPORT_FID
abbrev pub report_fid : ℕ
report_fid = 9

-- the number of the bit FAN_REPORT_DIR_FID
abbrev pub report_dir_fid : ℕ
report_dir_fid = 10

-- the number of the bit FAN_REPORT_NAME
abbrev pub report_name : ℕ
report_name = 11

-- the bits of all flags
abbrev pub init_flags : List ℕ
init_flags =
    cloexec ∷ nonblock ∷ class_content ∷ class_pre_content ∷ unlimited_queue ∷ unlimited_marks
    ∷ report_tid ∷ report_fid ∷ report_dir_fid ∷ report_name ∷ []

-- one of the two class flags is given
abbrev pub has_class_flag : ℕ → Bool
has_class_flag flags = occurs flags class_content || occurs flags class_pre_content

-- the group reports handles instead of descriptors
abbrev pub has_handles : ℕ → Bool
has_handles flags = occurs flags report_fid || occurs flags report_dir_fid

-- not both class flags are given, no class flag with handles, and names only with the handles of directories
abbrev pub agree : ℕ → Bool
agree flags =
    not (occurs flags class_content && occurs flags class_pre_content)
    && not (has_handles flags && has_class_flag flags)
    && not (occurs flags report_name && not (occurs flags report_dir_fid))

-- a group can be made with these flags
unfoldable pub is_init_flags : ℕ → Bool
is_init_flags flags = has_only 32 init_flags flags && agree flags

-- the same as a fact
abbrev pub IsInitFlags : ℕ → Type 0
IsInitFlags flags = is_init_flags flags ≡ true

-- the class of a group that was made with these flags
abbrev pub class_of : ℕ → Class
class_of flags =
    if occurs flags class_pre_content then PreContent
    else if occurs flags class_content then Content else Notif

-- the rank of a class in the order in which groups are asked and told
abbrev pub rank_of : Class → ℕ
rank_of PreContent = 0
rank_of Content = 1
rank_of Notif = 2
