use Rattle.ac_encode.specs.Stream.{places}
use Rattle.ac_encode.proofs.Laws.{size, split, frame_in, heads, one, told, turned}
use Rattle.ac_encode.proofs.law.stream_law.Goals as goal

pub returns : goal.returns
returns c = record {
  size = size c.known.ensures.sized;
  front = λ o k more x stream lines p. let f = split o k more x stream lines p in (f.front, f.said, f.back, f.later, f.is, f.stream, f.report);
  frame = frame_in c.known.ensures.sized;
  heads = heads;
  one = one c.known.ensures.one;
  mono = λ o i x frame line one alone here. c.known.ensures.mono o x.layout i (places x i) here.plan frame one alone here.is_frame;
  depends = λ o k x y stream lines same. (told c.known.ensures.depends o k x y stream lines same, told c.known.ensures.depends o k y x stream lines (turned x y _ same));
}
