-- What waits under the descriptor of a response.
use Rattle.std.proofs.Common.{◌≡◌, ◌∙◌, ℕ, ◌^◌, ◌<◌, Bool, true, false, cond, List, find, Option, Some, None, option_map, arith, refl, sym, nat_lt}
use Rattle.std.proofs.lemmas.Bool.Decides.{nat_tests}
use Rattle.std.proofs.lemmas.List.Elements.{All-weaker, filter_passes}
use Rattle.std.specs.Prelude.{IfNone, filter}
use Rattle.fan_lists.proofs.Finds.{find_none, find_wider}
use Rattle.fan_lists.proofs.FirstLemmas.{without_first_none}
use Rattle.fan_lists.specs.First.{without_first}
use Rattle.fan_listener.specs.declared.answers.Pending.{Pending}
use Rattle.fan_listener.specs.Responses.{entry_of, is_under, waiting_under}
use Rattle.fan_listener.specs.Stored.{is_read}
use Rattle.fan_listener.proofs.ListLemmas.{filter-without_first}

module _ (fd next_fd : ℕ) (asked : List Pending) where
  -- the one under a descriptor that was given out was read
  under_read : fd < next_fd → (pending : Pending) → is_under fd pending ≡ true
      → is_read next_fd pending ≡ true
  under_read given pending is = grind (arith, nat_tests, given, is)

  -- so it is one of those that were read
  pub found_read : fd < next_fd
      → find (is_under fd) (filter (is_read next_fd) asked) ≡ find (is_under fd) asked
  found_read given = find_wider (is_under fd) (is_read next_fd) (under_read given) asked

  pub without_read : fd < next_fd
      → filter (is_read next_fd) (without_first (is_under fd) asked)
      ≡ without_first (is_under fd) (filter (is_read next_fd) asked)
  without_read given = filter-without_first (is_read next_fd) (is_under fd) (under_read given) asked

  -- none of them stands under another descriptor
  not_read : nat_lt fd next_fd ≡ false → find (is_under fd) (filter (is_read next_fd) asked) ≡ None
  not_read ahead =
      find_none (is_under fd) (filter (is_read next_fd) asked)
      (All-weaker (λ p. is_read next_fd p ≡ true) (λ p. is_under fd p ≡ false)
      (λ p is. grind (arith, nat_tests, ahead, is)) (filter (is_read next_fd) asked)
      (filter_passes (is_read next_fd) asked))

  none_either : (b : Bool) → cond {A = Option ℕ} b None None ≡ None
  none_either true = refl
  none_either false = refl

  -- what waits under a descriptor is what is taken out there
  pub waiting_found : (found : Option Pending) → next_fd < 2 ^ 31
      → found ≡ cond (nat_lt fd next_fd) (find (is_under fd) asked) None
      → option_map entry_of found ≡ waiting_under fd (filter (is_read next_fd) asked)
  unfolding waiting_under
  waiting_found found small is = by (nat_lt fd next_fd) refl is
    where
      by : (b : Bool) → nat_lt fd next_fd ≡ b → found ≡ cond b (find (is_under fd) asked) None
          → option_map entry_of found ≡ cond (nat_lt fd (2 ^ 31))
          (option_map entry_of (find (is_under fd) (filter (is_read next_fd) asked))) None
      by true below is =
          let given : fd < next_fd = grind (arith, nat_tests, below) in
          let test : nat_lt fd (2 ^ 31) ≡ true = grind (arith, nat_tests, given, small) in
          rw (test, is, found_read given) refl
      by false ahead is = rw (is, not_read ahead) (sym (none_either (nat_lt fd (2 ^ 31))))

  -- and the rest stays where nothing is taken out
  pub same_rest : (found : Option Pending) (rest : List Pending) → found ≡ find (is_under fd) asked
      → rest ≡ without_first (is_under fd) asked → IfNone found (rest ≡ asked)
  same_rest None rest is left = left ∙ without_first_none (is_under fd) asked (sym is)
  same_rest (Some pending) rest is left = tt

  -- what is taken out was found under a descriptor that was given out
  pub taken_given : (pending : Pending)
      → ◌≡◌ {A = Option Pending} (Some pending) (cond (nat_lt fd next_fd) (find (is_under fd) asked) None)
      → (fd < next_fd) × (find (is_under fd) asked ≡ Some pending)
  taken_given pending is = by (nat_lt fd next_fd) refl is
    where
      by : (b : Bool) → nat_lt fd next_fd ≡ b
          → ◌≡◌ {A = Option Pending} (Some pending) (cond b (find (is_under fd) asked) None)
          → (fd < next_fd) × (find (is_under fd) asked ≡ Some pending)
      by true below is = (grind (arith, nat_tests, below), sym is)
      by false ahead is = absurd cc
