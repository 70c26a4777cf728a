-- One staged place more: counted, or stored.
use Rattle.std.proofs.Common.{◌≡◌, ℕ, zero, suc, ◌<◌, arith, ◌+◌, ◌≤◌, List, length, take, get_or, Some, None, Option, sym, refl, ap, ◌∙◌, add-one}
use Rattle.std.proofs.lemmas.List.{take_all}
use Rattle.std.proofs.lemmas.List.Sums.{count_by_more_no, count_by_more_yes}
use Rattle.std.specs.List.{count_by}
use Rattle.std.specs.Option.{is_some}
use Rattle.memory.specs.Model.{Mem}
use Rattle.chip.specs.declared.slaves.Area.{Area}
use Rattle.x1226.specs.Stop.{count_held, store_held, stored_held}

-- The count of the first n staged places is that of the list up to n.
pub count_held_is : (held : List (Option ℕ)) (n : ℕ) → n ≤ length held → count_held held n ≡ count_by is_some (take n held)
unfolding count_held
count_held_is held zero below = refl
count_held_is held (suc n) below =
    let before = count_held_is held n (omega arith) in
    let here : n < length held = omega arith in
    elim (get_or held n None) as (λ o. get_or held n None ≡ o → count_held held (suc n) ≡ count_by is_some (take (suc n) held)) [
      | None ↦ λ is. rw (is, count_held) (before ∙ sym (rw add-one at (count_by_more_no is_some held n None here (ap is_some is))))
      | Some b ↦ λ is. rw (is, count_held) (ap suc before ∙ sym (rw (add-one, add-one) at (count_by_more_yes is_some held n None here (ap is_some is))))
    ] refl

-- The count of all 64 places is that of the list.
pub count_held_all : (held : List (Option ℕ)) → length held ≡ 64 → count_by is_some held ≡ count_held held 64
count_held_all held sized =
    sym (count_held_is held 64 (omega arith) ∙ ap (count_by is_some) (take_all 64 held (omega arith)))

pub stored_none : (area : Area) (address : ℕ) (held : List (Option ℕ)) (m : Mem) → m ≡ stored_held area address held 0 m
unfolding stored_held
stored_none area address held m = refl

pub stored_more : (area : Area) (address : ℕ) (held : List (Option ℕ)) (k : ℕ) (m : Mem)
    → stored_held area address held (k + 1) m ≡ store_held area address k (get_or held k None) (stored_held area address held k m)
unfolding stored_held
stored_more area address held k m = rw add-one refl
