-- Reuse: a row that a block lacks, and whose value the block needs, has the value of the last earlier block of the frame
-- that has it (A/52 5.4.3). Blocks are those of one frame in their order.
use Rattle.std.specs.Prelude.{◌≡◌, ◌<◌, ◌≤◌, ℕ, zero, suc, ◌+◌, ◌-◌, Bool, false, ◌&&◌, ◌==◌, nat_lt, nat_le, is_some, if◌then◌else◌, List}
use Rattle.std.specs.Prelude.{[], ◌∷◌, ◌++◌, take, Option, Some, None, slice_index_or}
use Rattle.std.specs.List.{count_by}
use Rattle.std.specs.Option.{option_or, ForSome}
use Rattle.ac_base.specs.declared.spans.Span.{Span}
use Rattle.ac_base.specs.declared.spans.Lead.TheVariants.{Free}
use Rattle.ac_base.specs.Shape.{full_of, is_stereo, subbands, rematrix_bands, full_span, next_span, low_span, end_of, coupling_start}
use Rattle.ac_rows.specs.Blocks.{Block}
use Rattle.ac_rows.specs.declared.head.Head.{Head}
use Rattle.ac_rows.specs.declared.groups.Strategy.{Strategy}
use Rattle.ac_rows.specs.declared.groups.Coupling.{Coupling}
use Rattle.ac_rows.specs.Groups.{strategy_of}

-- ---- values that may be there

-- a flag that counts as 0 where it isn't there
abbrev pub holds : Option Bool → Bool
holds None = false
holds (Some b) = b

-- a number that counts as 0 where it isn't there
abbrev pub number : Option ℕ → ℕ
number None = 0
number (Some n) = n

-- the entry of a channel, band or subband
abbrev pub entry : {A : Type 0} → List (Option A) → ℕ → Option A
entry xs i = slice_index_or xs i None

-- the list of f i, f (i + 1) .. of n entries
unfoldable pub listed : {A : Type 0} → ℕ → ℕ → (ℕ → A) → List A
listed zero i f = []
listed (suc n) i f = f i ∷ listed n (suc i) f

-- ---- the last earlier block that has it

-- what f gives of the last of these blocks of which it gives something. f is told the blocks before, which begin as `before`
unfoldable pub latest_in : {A : Type 0} → (List Block → Block → Option A) → List Block → List Block → Option A
latest_in f before [] = None
latest_in f before (b ∷ bs) = option_or (latest_in f (before ++ b ∷ []) bs) (f before b)

-- the value of the last of these blocks that has it
abbrev pub latest : {A : Type 0} → (Block → Option A) → List Block → Option A
latest f blocks = latest_in (λ _. f) [] blocks

-- the value that holds in a block after these: its own, or else the latest
abbrev pub held : {A : Type 0} → (Block → Option A) → List Block → Block → Option A
held f earlier b = option_or (f b) (latest f earlier)

-- ---- the coupling strategy that holds in a block

-- row by row and entry by entry, the first or else the second
abbrev pub over : Strategy → Strategy → Strategy
over s kept = record {
  cplstre = s.cplstre;
  cplinu = option_or s.cplinu kept.cplinu;
  chincpl = listed 5 0 (λ i. option_or (entry s.chincpl i) (entry kept.chincpl i));
  phsflginu = option_or s.phsflginu kept.phsflginu;
  cplbegf = option_or s.cplbegf kept.cplbegf;
  cplendf = option_or s.cplendf kept.cplendf;
  cplbndstrc = listed 18 0 (λ k. option_or (entry s.cplbndstrc k) (entry kept.cplbndstrc k));
}

-- the latest of each row and entry
abbrev pub latest_strategy : List Block → Strategy
latest_strategy blocks = record {
  cplstre = false;
  cplinu = latest (λ b. b.cplinu) blocks;
  chincpl = listed 5 0 (λ i. latest (λ b. entry b.chincpl i) blocks);
  phsflginu = latest (λ b. b.phsflginu) blocks;
  cplbegf = latest (λ b. b.cplbegf) blocks;
  cplendf = latest (λ b. b.cplendf) blocks;
  cplbndstrc = listed 18 0 (λ k. latest (λ b. entry b.cplbndstrc k) blocks);
}

-- cplbegf and cplendf, where coupling is in use (A/52 5.4.3.8, 5.4.3.11, 5.4.3.12)
abbrev pub range_of : Strategy → Option (ℕ × ℕ)
range_of s = if holds s.cplinu then Some (number s.cplbegf, number s.cplendf) else None

-- a full channel is coupled (A/52 5.4.3.9)
abbrev pub is_coupled : Strategy → ℕ → Bool
is_coupled s i = holds s.cplinu && holds (entry s.chincpl i)

-- the bands of the coupling channel: its subbands, less those that are joined to the one before (A/52 5.4.3.13)
abbrev pub bands_of : Strategy → ℕ
bands_of s = subbands (range_of s) - count_by holds (take (subbands (range_of s)) s.cplbndstrc)

-- what the rows of a block see of its coupling
abbrev pub coupling_of : Strategy → Coupling
coupling_of s = record {
  range = range_of s;
  coupled = listed 5 0 (is_coupled s);
  phases = holds s.cplinu && holds s.phsflginu;  -- A/52 5.4.3.10
  bands = bands_of s;
}

-- the coupling that holds in a block behind these, of which this is the strategy that it sends
abbrev pub coupling_with : List Block → Strategy → Coupling
coupling_with earlier s = coupling_of (over s (latest_strategy earlier))

-- the same of a whole block
abbrev pub coupling_in : List Block → Block → Coupling
coupling_in earlier b = coupling_with earlier (strategy_of b)

abbrev pub channel_coupled : Coupling → ℕ → Bool
channel_coupled c i = slice_index_or c.coupled i false

-- the first subband of the coupling channel
abbrev pub begin_of : Option (ℕ × ℕ) → ℕ
begin_of None = 0
begin_of (Some p) = p.0

-- the bin behind the last of an uncoupled channel, where its bandwidth is known
abbrev pub end_free : Option ℕ → Option ℕ
end_free None = None
end_free (Some w) = Some (end_of w)

-- the bin behind the last of a full channel with this bandwidth, unless it is coupled (A/52 7.1.3)
abbrev pub channel_end : Coupling → ℕ → Option ℕ → Option ℕ
channel_end c i chbwcod = if channel_coupled c i then Some (coupling_start (begin_of c.range)) else end_free chbwcod

-- ---- a block with all that it needs

-- its own value, or else the latest where the block needs one
abbrev pub needed : {A : Type 0} → Bool → (Block → Option A) → List Block → Block → Option A
needed there f earlier b = if there then held f earlier b else f b

-- dynrng, gainrng and skipl are needed by no rule of decoding and stay as they were sent
unfoldable pub filled_of : Head → List Block → Block → Block
filled_of h earlier b =
    let full = full_of h.acmod in
    let stereo = is_stereo h.acmod in
    let c = coupling_in earlier b in
    let used = is_some c.range in
    record {
      blksw = b.blksw;
      dithflag = b.dithflag;
      dynrnge = b.dynrnge;
      dynrng = b.dynrng;
      cplstre = b.cplstre;
      cplinu = held (λ d. d.cplinu) earlier b;
      chincpl = listed 5 0 (λ i. needed (used && nat_lt i full) (λ d. entry d.chincpl i) earlier b);
      phsflginu = needed (used && stereo) (λ d. d.phsflginu) earlier b;
      cplbegf = needed used (λ d. d.cplbegf) earlier b;
      cplendf = needed used (λ d. d.cplendf) earlier b;
      cplbndstrc = listed 18 0 (λ k. needed (nat_le 1 k && nat_lt k (subbands c.range)) (λ d. entry d.cplbndstrc k) earlier b);
      cplcoe = b.cplcoe;
      mstrcplco = listed 5 0 (λ i. needed (channel_coupled c i) (λ d. entry d.mstrcplco i) earlier b);
      cplcoexp = listed 5 0 (λ i. listed 18 0 (λ k. needed (channel_coupled c i
          && nat_lt k c.bands) (λ d. entry (slice_index_or d.cplcoexp i []) k) earlier b));
      cplcomant = listed 5 0 (λ i. listed 18 0 (λ k. needed (channel_coupled c i
          && nat_lt k c.bands) (λ d. entry (slice_index_or d.cplcomant i []) k) earlier b));
      phsflg = listed 18 0 (λ k. if stereo && nat_lt k c.bands
          then Some (c.phases && holds (held (λ d. entry d.phsflg k) earlier b)) else None);
      rematstr = b.rematstr;
      rematflg = listed 4 0 (λ k. if stereo && nat_lt k (rematrix_bands c.range)
          then Some (holds (held (λ d. entry d.rematflg k) earlier b)) else None);
      cplexpstr = b.cplexpstr;
      chexpstr = b.chexpstr;
      lfeexpstr = b.lfeexpstr;
      chbwcod = listed 5 0 (λ i. if channel_coupled c i then None else needed (nat_lt i full) (λ d. entry d.chbwcod i) earlier b);
      cplabsexp = needed used (λ d. d.cplabsexp) earlier b;
      exps = listed 5 0 (λ i. needed (nat_lt i full) (λ d. entry d.exps i) earlier b);
      gainrng = b.gainrng;
      lfeexps = needed h.lfeon (λ d. d.lfeexps) earlier b;
      baie = b.baie;
      sdcycod = held (λ d. d.sdcycod) earlier b;
      fdcycod = held (λ d. d.fdcycod) earlier b;
      sgaincod = held (λ d. d.sgaincod) earlier b;
      dbpbcod = held (λ d. d.dbpbcod) earlier b;
      floorcod = held (λ d. d.floorcod) earlier b;
      snroffste = b.snroffste;
      csnroffst = held (λ d. d.csnroffst) earlier b;
      cplfsnroffst = needed used (λ d. d.cplfsnroffst) earlier b;
      cplfgaincod = needed used (λ d. d.cplfgaincod) earlier b;
      fsnroffst = listed 5 0 (λ i. needed (nat_lt i full) (λ d. entry d.fsnroffst i) earlier b);
      fgaincod = listed 5 0 (λ i. needed (nat_lt i full) (λ d. entry d.fgaincod i) earlier b);
      lfefsnroffst = needed h.lfeon (λ d. d.lfefsnroffst) earlier b;
      lfefgaincod = needed h.lfeon (λ d. d.lfefgaincod) earlier b;
      cplleake = b.cplleake;
      cplfleak = needed used (λ d. d.cplfleak) earlier b;
      cplsleak = needed used (λ d. d.cplsleak) earlier b;
      deltbaie = b.deltbaie;
      skiple = b.skiple;
      skipl = b.skipl;
    }

-- ---- the bins of its coded channels (A/52 7.1.3)

-- no channel
abbrev pub blank_span : Span
blank_span = record { start = 0; end = 0; lead = Free }

-- the bins of coded channel c of a filled block: the full channels, then the coupling channel where coupling is in use, then LFE
abbrev pub span_in : Head → Block → ℕ → Span
span_in h b c =
    let full = full_of h.acmod in
    let s = strategy_of b in
    let range = range_of s in
    if nat_lt c full then full_span (number (entry b.chbwcod c)) (if is_coupled s c then range else None)
    else if holds s.cplinu then (if c == full then next_span range else if c == full + 1 && h.lfeon then low_span else blank_span)
    else (if c == full && h.lfeon then low_span else blank_span)

abbrev pub spans_of : Head → Block → List Span
spans_of h b = listed 7 0 (span_in h b)

-- what `spans` asks of a head and a filled block: the fields by which bins are counted are within their bounds
pub record HasSpans (h : Head) (b : Block) : Type 0 where
  pub channels : h.acmod ≤ 7
  pub free : (i : ℕ) → i < full_of h.acmod → is_coupled (strategy_of b) i ≡ false → number (entry b.chbwcod i) ≤ 60
  pub range : ForSome (range_of (strategy_of b)) (λ p. (p.0 ≤ 15) × (p.1 ≤ 15))
