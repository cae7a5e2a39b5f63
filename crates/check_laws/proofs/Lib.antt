-- Which processes the items of a merge have.
mod Processes
-- What is judged by some bytes is judged so by others that agree with them.
mod Carried
