-- What the rows of a block see of the blocks before it: the coupling strategy, and what there is to reuse. A field that
-- asks for reuse is refused where there is nothing that fits (this project's own rule).
use Rattle.std.specs.Prelude.{ℕ, Bool, true, false, ◌&&◌, ◌||◌, ◌==◌, nat_le, is_some, if◌then◌else◌, List, [], ◌∷◌, Option, Some, None}
use Rattle.std.specs.Prelude.{slice_index}
use Rattle.std.specs.List.{list_any}
use Rattle.std.specs.Option.{option_or}
use Rattle.ac_rows.specs.Blocks.{Block}
use Rattle.ac_rows.specs.declared.groups.Coupling.{Coupling}
use Rattle.ac_rows.specs.declared.groups.Known.{Known}
use Rattle.ac_rows.specs.Groups.{strategy_of}
use Rattle.ac_rows.specs.Filled.{holds, number, entry, listed, latest_in, latest, latest_strategy, coupling_of, coupling_in, over}
use Rattle.ac_rows.specs.Filled.{channel_end}

-- ---- what a block behind these gives

-- the bands for which it gives a channel coordinates
abbrev pub bands_given : Coupling → Block → ℕ → Option ℕ
bands_given c b i = if holds (entry b.cplcoe i) then Some c.bands else None

-- the range for which it sends exponents of the coupling channel
abbrev pub range_sent : Coupling → Block → Option (ℕ × ℕ)
range_sent c b = if number b.cplexpstr == 0 then None else c.range

-- the end up to which it sends exponents of a full channel
abbrev pub end_sent : Coupling → Block → ℕ → Option ℕ
end_sent c b i = if slice_index b.chexpstr i == 0 then None else channel_end c i (entry b.chbwcod i)

-- ---- what these blocks gave: always the last of them that gave it

abbrev pub is_begun : List Block → Bool
is_begun [] = false
is_begun (b ∷ bs) = true

unfoldable pub known_of : List Block → Known
known_of blocks = record {
  begun = is_begun blocks;
  strategy = latest_strategy blocks;
  coordinates = listed 5 0 (λ i. latest_in (λ before b. bands_given (coupling_in before b) b i) [] blocks);
  sent = latest_in (λ before b. range_sent (coupling_in before b) b) [] blocks;
  ends = listed 5 0 (λ i. latest_in (λ before b. end_sent (coupling_in before b) b i) [] blocks);
  widths = listed 5 0 (λ i. latest (λ b. entry b.chbwcod i) blocks);
  low = list_any (λ b. holds b.lfeexpstr) blocks;
  offset = list_any (λ b. is_some b.cplfsnroffst) blocks;
  leaks = list_any (λ b. holds b.cplleake) blocks;
}

-- the same, one block later
abbrev pub after : Known → Block → Known
after k b =
    let s = over (strategy_of b) k.strategy in
    let c = coupling_of s in
    record {
      begun = true;
      strategy = record {
        cplstre = false;
        cplinu = s.cplinu;
        chincpl = s.chincpl;
        phsflginu = s.phsflginu;
        cplbegf = s.cplbegf;
        cplendf = s.cplendf;
        cplbndstrc = s.cplbndstrc;
      };
      coordinates = listed 5 0 (λ i. option_or (bands_given c b i) (entry k.coordinates i));
      sent = option_or (range_sent c b) k.sent;
      ends = listed 5 0 (λ i. option_or (end_sent c b i) (entry k.ends i));
      widths = listed 5 0 (λ i. option_or (entry b.chbwcod i) (entry k.widths i));
      low = k.low || holds b.lfeexpstr;
      offset = k.offset || is_some b.cplfsnroffst;
      leaks = k.leaks || holds b.cplleake;
    }

-- ---- whether there is something to reuse

abbrev pub is_count : Option ℕ → ℕ → Bool
is_count None n = false
is_count (Some m) n = m == n

abbrev pub covers : Option (ℕ × ℕ) → Option (ℕ × ℕ) → Bool
covers None q = false
covers (Some p) None = false
covers (Some p) (Some q) = p.0 == q.0 && nat_le q.1 p.1

abbrev pub reaches : Option ℕ → Option ℕ → Bool
reaches None n = false
reaches (Some m) None = false
reaches (Some m) (Some n) = nat_le n m

-- coordinates for as many bands
abbrev pub may_keep_coordinates : Known → Coupling → ℕ → Bool
may_keep_coordinates k c i = is_count (entry k.coordinates i) c.bands

-- exponents of the coupling channel with this start and no lower end
abbrev pub may_keep_shared : Known → Coupling → Bool
may_keep_shared k c = covers k.sent c.range

-- exponents of a full channel up to its end, which is known
abbrev pub may_keep_channel : Known → Coupling → ℕ → Bool
may_keep_channel k c i = reaches (entry k.ends i) (channel_end c i (entry k.widths i))
