-- Laws of guards that agree on what a recording accesses, of locks as the lines of a guard list, and the second term.
mod Alike
mod Lists
mod VerdictLaws
