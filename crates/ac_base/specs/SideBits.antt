-- The side bits of a frame: the widths of its rows other than exponents, chbwcod, gainrng, skip bytes and mantissas (A/52 5.3).
-- Each list has one width for a row of the syntax, in its order; a row that isn't there has the width 0. Which optional rows are there is
-- this project's profile: block 0 sends all, a later block keeps all but the exponents, and all channels are coupled or none.
use Rattle.std.specs.Prelude.{ℕ, ◌+◌, ◌-◌, ◌*◌, Bool, ◌&&◌, is_some, if◌then◌else◌, Option, List, [], ◌∷◌, sum}
use Rattle.ac_base.specs.Shape.{full_of, count_of, is_stereo, has_center, has_surround, subbands, rematrix_bands}

-- the width of a row that is there where the test holds
abbrev pub when : Bool → ℕ → ℕ
when there width = if there then width else 0

-- syncinfo and bsi (A/52 5.3.1, 5.3.2)
abbrev pub head_rows : ℕ → List ℕ
head_rows acmod =
    16 ∷  -- syncword
    16 ∷  -- crc1
    2 ∷  -- fscod
    6 ∷  -- frmsizecod
    5 ∷  -- bsid
    3 ∷  -- bsmod
    3 ∷  -- acmod
    when (has_center acmod) 2 ∷  -- cmixlev
    when (has_surround acmod) 2 ∷  -- surmixlev
    when (is_stereo acmod) 2 ∷  -- dsurmod
    1 ∷  -- lfeon
    5 ∷  -- dialnorm
    1 ∷  -- compre
    1 ∷  -- langcode
    1 ∷  -- audprodie
    1 ∷  -- copyrightb
    1 ∷  -- origbs
    1 ∷  -- timecod1e
    1 ∷  -- timecod2e
    1 ∷  -- addbsie
    []

-- block 0 (A/52 5.3.3), in which each strategy, coordinate and allocation is sent
abbrev pub first_block_rows : ℕ → Bool → Option (ℕ × ℕ) → List ℕ
first_block_rows acmod lfe couple =
    let full = full_of acmod in
    let coupled = is_some couple in
    let stereo = is_stereo acmod in
    let bands = subbands couple in
    full * 1 ∷  -- blksw, for each full channel
    full * 1 ∷  -- dithflag
    1 ∷  -- dynrnge
    1 ∷  -- cplstre
    1 ∷  -- cplinu
    when coupled (full * 1) ∷  -- chincpl
    when (coupled && stereo) 1 ∷  -- phsflginu
    when coupled 4 ∷  -- cplbegf
    when coupled 4 ∷  -- cplendf
    when coupled ((bands - 1) * 1) ∷  -- cplbndstrc, for each subband but the first
    when coupled (full * 1) ∷  -- cplcoe
    when coupled (full * 2) ∷  -- mstrcplco
    when coupled (full * bands * 4) ∷  -- cplcoexp, for each band
    when coupled (full * bands * 4) ∷  -- cplcomant
    when stereo 1 ∷  -- rematstr
    when stereo (rematrix_bands couple * 1) ∷  -- rematflg
    when coupled 2 ∷  -- cplexpstr
    full * 2 ∷  -- chexpstr
    when lfe 1 ∷  -- lfeexpstr
    1 ∷  -- baie
    2 ∷  -- sdcycod
    2 ∷  -- fdcycod
    2 ∷  -- sgaincod
    2 ∷  -- dbpbcod
    3 ∷  -- floorcod
    1 ∷  -- snroffste
    6 ∷  -- csnroffst
    when coupled 4 ∷  -- cplfsnroffst
    when coupled 3 ∷  -- cplfgaincod
    full * 4 ∷  -- fsnroffst
    full * 3 ∷  -- fgaincod
    when lfe 4 ∷  -- lfefsnroffst
    when lfe 3 ∷  -- lfefgaincod
    when coupled 1 ∷  -- cplleake
    when coupled 3 ∷  -- cplfleak
    when coupled 3 ∷  -- cplsleak
    1 ∷  -- deltbaie
    1 ∷  -- skiple
    []

-- a block from 1 to 5, which keeps all but the exponent strategies
abbrev pub later_block_rows : ℕ → Bool → Option (ℕ × ℕ) → List ℕ
later_block_rows acmod lfe couple =
    let full = full_of acmod in
    let coupled = is_some couple in
    full * 1 ∷  -- blksw, for each full channel
    full * 1 ∷  -- dithflag
    1 ∷  -- dynrnge
    1 ∷  -- cplstre
    when coupled (full * 1) ∷  -- cplcoe
    when (is_stereo acmod) 1 ∷  -- rematstr
    when coupled 2 ∷  -- cplexpstr
    full * 2 ∷  -- chexpstr
    when lfe 1 ∷  -- lfeexpstr
    1 ∷  -- baie
    1 ∷  -- snroffste
    when coupled 1 ∷  -- cplleake
    1 ∷  -- deltbaie
    1 ∷  -- skiple
    []

-- auxdata and errorcheck (A/52 5.3.4, 5.3.5)
abbrev pub tail_rows : List ℕ
tail_rows =
    1 ∷  -- auxdatae
    1 ∷  -- crcrsv
    16 ∷  -- crc2
    []

-- the side bits up to the end of block 1: a part of this project's own, since blocks 0 and 1 end in the words of crc1 (A/52 7.10.1)
unfoldable pub side_front : ℕ → Bool → Option (ℕ × ℕ) → ℕ
side_front acmod lfe couple =
    sum (head_rows acmod) + sum (first_block_rows acmod lfe couple) + sum (later_block_rows acmod lfe couple)

-- the side bits of the frame (A/52 5.3)
unfoldable pub side_total : ℕ → Bool → Option (ℕ × ℕ) → ℕ
side_total acmod lfe couple =
    sum (head_rows acmod) + sum (first_block_rows acmod lfe couple) + 5 * sum (later_block_rows acmod lfe couple) + sum tail_rows

-- the sums of the rows in closed form, this project's own; k, s and l are 1 where there is a coupling, where there are two channels, and
-- where there is LFE
abbrev pub head_formula : ℕ → ℕ
head_formula acmod = 65 + 2 * count_of (has_center acmod) + 2 * count_of (has_surround acmod) + 2 * count_of (is_stereo acmod)

abbrev pub first_block_formula : ℕ → Bool → Option (ℕ × ℕ) → ℕ
first_block_formula acmod lfe couple =
    let full = full_of acmod in
    let k = count_of (is_some couple) in
    let s = count_of (is_stereo acmod) in
    let l = count_of lfe in
    let bands = subbands couple in
    2 * full + 3 + k * (full + s + 8 + (bands - 1) + full * (3 + 8 * bands)) + s * (1 + rematrix_bands couple)
    + 2 * k + 2 * full + l + 12 + 7 + 7 * full + 7 * l + 7 * k + 7 * k + 2

abbrev pub later_block_formula : ℕ → Bool → Option (ℕ × ℕ) → ℕ
later_block_formula acmod lfe couple =
    let full = full_of acmod in
    let k = count_of (is_some couple) in
    let s = count_of (is_stereo acmod) in
    let l = count_of lfe in
    2 * full + 2 + k * full + s + 2 * k + 2 * full + l + 2 + k + 2
