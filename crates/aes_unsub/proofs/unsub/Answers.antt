-- `aes_unsub::unsub` meets its contract. Assumes nothing.
use Rattle.aes.specs.Field.{xtime, times, mul, powers, inverse, turn, unaffine, unsbox}
use Rattle.aes_arms.proofs.Arms.{unsub-arm}
use Rattle.std.proofs.Common.{◌≡◌, ◌+◌, arith}
use Rattle.aes_unsub.proofs.unsub.Goals as goal

pub returns-in-256 : goal.returns-in-256
unfolding xtime times mul powers inverse turn unaffine unsbox
returns-in-256 c = unsub-arm 256 _ c.in-256.is tt

pub returns-in-257 : goal.returns-in-257
unfolding xtime times mul powers inverse turn unaffine unsbox
returns-in-257 c = unsub-arm 257 _ c.in-257.is tt

pub returns-in-258 : goal.returns-in-258
unfolding xtime times mul powers inverse turn unaffine unsbox
returns-in-258 c = unsub-arm 258 _ c.in-258.is tt

pub returns-in-259 : goal.returns-in-259
unfolding xtime times mul powers inverse turn unaffine unsbox
returns-in-259 c = unsub-arm 259 _ c.in-259.is tt

pub returns-in-260 : goal.returns-in-260
unfolding xtime times mul powers inverse turn unaffine unsbox
returns-in-260 c = unsub-arm 260 _ c.in-260.is tt

pub returns-in-261 : goal.returns-in-261
unfolding xtime times mul powers inverse turn unaffine unsbox
returns-in-261 c = unsub-arm 261 _ c.in-261.is tt

pub returns-in-262 : goal.returns-in-262
unfolding xtime times mul powers inverse turn unaffine unsbox
returns-in-262 c = unsub-arm 262 _ c.in-262.is tt

pub returns-in-263 : goal.returns-in-263
unfolding xtime times mul powers inverse turn unaffine unsbox
returns-in-263 c = unsub-arm 263 _ c.in-263.is tt

pub returns-in-264 : goal.returns-in-264
unfolding xtime times mul powers inverse turn unaffine unsbox
returns-in-264 c = unsub-arm 264 _ c.in-264.is tt

pub returns-in-265 : goal.returns-in-265
unfolding xtime times mul powers inverse turn unaffine unsbox
returns-in-265 c = unsub-arm 265 _ c.in-265.is tt

pub returns-in-266 : goal.returns-in-266
unfolding xtime times mul powers inverse turn unaffine unsbox
returns-in-266 c = unsub-arm 266 _ c.in-266.is tt

pub returns-in-267 : goal.returns-in-267
unfolding xtime times mul powers inverse turn unaffine unsbox
returns-in-267 c = unsub-arm 267 _ c.in-267.is tt

pub returns-in-268 : goal.returns-in-268
unfolding xtime times mul powers inverse turn unaffine unsbox
returns-in-268 c = unsub-arm 268 _ c.in-268.is tt

pub returns-in-269 : goal.returns-in-269
unfolding xtime times mul powers inverse turn unaffine unsbox
returns-in-269 c = unsub-arm 269 _ c.in-269.is tt

pub returns-in-270 : goal.returns-in-270
unfolding xtime times mul powers inverse turn unaffine unsbox
returns-in-270 c = unsub-arm 270 _ c.in-270.is tt

pub returns-in-271 : goal.returns-in-271
unfolding xtime times mul powers inverse turn unaffine unsbox
returns-in-271 c = unsub-arm 271 _ c.in-271.is tt

pub returns-in-272 : goal.returns-in-272
unfolding xtime times mul powers inverse turn unaffine unsbox
returns-in-272 c = unsub-arm 272 _ c.in-272.is tt

pub returns-in-273 : goal.returns-in-273
unfolding xtime times mul powers inverse turn unaffine unsbox
returns-in-273 c = unsub-arm 273 _ c.in-273.is tt

pub returns-in-274 : goal.returns-in-274
unfolding xtime times mul powers inverse turn unaffine unsbox
returns-in-274 c = unsub-arm 274 _ c.in-274.is tt

pub returns-in-275 : goal.returns-in-275
unfolding xtime times mul powers inverse turn unaffine unsbox
returns-in-275 c = unsub-arm 275 _ c.in-275.is tt

pub returns-in-276 : goal.returns-in-276
unfolding xtime times mul powers inverse turn unaffine unsbox
returns-in-276 c = unsub-arm 276 _ c.in-276.is tt

pub returns-in-277 : goal.returns-in-277
unfolding xtime times mul powers inverse turn unaffine unsbox
returns-in-277 c = unsub-arm 277 _ c.in-277.is tt

pub returns-in-278 : goal.returns-in-278
unfolding xtime times mul powers inverse turn unaffine unsbox
returns-in-278 c = unsub-arm 278 _ c.in-278.is tt

pub returns-in-279 : goal.returns-in-279
unfolding xtime times mul powers inverse turn unaffine unsbox
returns-in-279 c = unsub-arm 279 _ c.in-279.is tt

pub returns-in-280 : goal.returns-in-280
unfolding xtime times mul powers inverse turn unaffine unsbox
returns-in-280 c = unsub-arm 280 _ c.in-280.is tt

pub returns-in-281 : goal.returns-in-281
unfolding xtime times mul powers inverse turn unaffine unsbox
returns-in-281 c = unsub-arm 281 _ c.in-281.is tt

pub returns-in-282 : goal.returns-in-282
unfolding xtime times mul powers inverse turn unaffine unsbox
returns-in-282 c = unsub-arm 282 _ c.in-282.is tt

pub returns-in-283 : goal.returns-in-283
unfolding xtime times mul powers inverse turn unaffine unsbox
returns-in-283 c = unsub-arm 283 _ c.in-283.is tt

pub returns-in-284 : goal.returns-in-284
unfolding xtime times mul powers inverse turn unaffine unsbox
returns-in-284 c = unsub-arm 284 _ c.in-284.is tt

pub returns-in-285 : goal.returns-in-285
unfolding xtime times mul powers inverse turn unaffine unsbox
returns-in-285 c = unsub-arm 285 _ c.in-285.is tt

pub returns-in-286 : goal.returns-in-286
unfolding xtime times mul powers inverse turn unaffine unsbox
returns-in-286 c = unsub-arm 286 _ c.in-286.is tt

pub returns-in-287 : goal.returns-in-287
unfolding xtime times mul powers inverse turn unaffine unsbox
returns-in-287 c = unsub-arm 287 _ c.in-287.is tt

pub returns-in-288 : goal.returns-in-288
unfolding xtime times mul powers inverse turn unaffine unsbox
returns-in-288 c = unsub-arm 288 _ c.in-288.is tt

pub returns-in-289 : goal.returns-in-289
unfolding xtime times mul powers inverse turn unaffine unsbox
returns-in-289 c = unsub-arm 289 _ c.in-289.is tt

pub returns-in-290 : goal.returns-in-290
unfolding xtime times mul powers inverse turn unaffine unsbox
returns-in-290 c = unsub-arm 290 _ c.in-290.is tt

pub returns-in-291 : goal.returns-in-291
unfolding xtime times mul powers inverse turn unaffine unsbox
returns-in-291 c = unsub-arm 291 _ c.in-291.is tt

pub returns-in-292 : goal.returns-in-292
unfolding xtime times mul powers inverse turn unaffine unsbox
returns-in-292 c = unsub-arm 292 _ c.in-292.is tt

pub returns-in-293 : goal.returns-in-293
unfolding xtime times mul powers inverse turn unaffine unsbox
returns-in-293 c = unsub-arm 293 _ c.in-293.is tt

pub returns-in-294 : goal.returns-in-294
unfolding xtime times mul powers inverse turn unaffine unsbox
returns-in-294 c = unsub-arm 294 _ c.in-294.is tt

pub returns-in-295 : goal.returns-in-295
unfolding xtime times mul powers inverse turn unaffine unsbox
returns-in-295 c = unsub-arm 295 _ c.in-295.is tt

pub returns-in-296 : goal.returns-in-296
unfolding xtime times mul powers inverse turn unaffine unsbox
returns-in-296 c = unsub-arm 296 _ c.in-296.is tt

pub returns-in-297 : goal.returns-in-297
unfolding xtime times mul powers inverse turn unaffine unsbox
returns-in-297 c = unsub-arm 297 _ c.in-297.is tt

pub returns-in-298 : goal.returns-in-298
unfolding xtime times mul powers inverse turn unaffine unsbox
returns-in-298 c = unsub-arm 298 _ c.in-298.is tt

pub returns-in-299 : goal.returns-in-299
unfolding xtime times mul powers inverse turn unaffine unsbox
returns-in-299 c = unsub-arm 299 _ c.in-299.is tt

pub returns-in-300 : goal.returns-in-300
unfolding xtime times mul powers inverse turn unaffine unsbox
returns-in-300 c = unsub-arm 300 _ c.in-300.is tt

pub returns-in-301 : goal.returns-in-301
unfolding xtime times mul powers inverse turn unaffine unsbox
returns-in-301 c = unsub-arm 301 _ c.in-301.is tt

pub returns-in-302 : goal.returns-in-302
unfolding xtime times mul powers inverse turn unaffine unsbox
returns-in-302 c = unsub-arm 302 _ c.in-302.is tt

pub returns-in-303 : goal.returns-in-303
unfolding xtime times mul powers inverse turn unaffine unsbox
returns-in-303 c = unsub-arm 303 _ c.in-303.is tt

pub returns-in-304 : goal.returns-in-304
unfolding xtime times mul powers inverse turn unaffine unsbox
returns-in-304 c = unsub-arm 304 _ c.in-304.is tt

pub returns-in-305 : goal.returns-in-305
unfolding xtime times mul powers inverse turn unaffine unsbox
returns-in-305 c = unsub-arm 305 _ c.in-305.is tt

pub returns-in-306 : goal.returns-in-306
unfolding xtime times mul powers inverse turn unaffine unsbox
returns-in-306 c = unsub-arm 306 _ c.in-306.is tt

pub returns-in-307 : goal.returns-in-307
unfolding xtime times mul powers inverse turn unaffine unsbox
returns-in-307 c = unsub-arm 307 _ c.in-307.is tt

pub returns-in-308 : goal.returns-in-308
unfolding xtime times mul powers inverse turn unaffine unsbox
returns-in-308 c = unsub-arm 308 _ c.in-308.is tt

pub returns-in-309 : goal.returns-in-309
unfolding xtime times mul powers inverse turn unaffine unsbox
returns-in-309 c = unsub-arm 309 _ c.in-309.is tt

pub returns-in-310 : goal.returns-in-310
unfolding xtime times mul powers inverse turn unaffine unsbox
returns-in-310 c = unsub-arm 310 _ c.in-310.is tt

pub returns-in-311 : goal.returns-in-311
unfolding xtime times mul powers inverse turn unaffine unsbox
returns-in-311 c = unsub-arm 311 _ c.in-311.is tt

pub returns-in-312 : goal.returns-in-312
unfolding xtime times mul powers inverse turn unaffine unsbox
returns-in-312 c = unsub-arm 312 _ c.in-312.is tt

pub returns-in-313 : goal.returns-in-313
unfolding xtime times mul powers inverse turn unaffine unsbox
returns-in-313 c = unsub-arm 313 _ c.in-313.is tt

pub returns-in-314 : goal.returns-in-314
unfolding xtime times mul powers inverse turn unaffine unsbox
returns-in-314 c = unsub-arm 314 _ c.in-314.is tt

pub returns-in-315 : goal.returns-in-315
unfolding xtime times mul powers inverse turn unaffine unsbox
returns-in-315 c = unsub-arm 315 _ c.in-315.is tt

pub returns-in-316 : goal.returns-in-316
unfolding xtime times mul powers inverse turn unaffine unsbox
returns-in-316 c = unsub-arm 316 _ c.in-316.is tt

pub returns-in-317 : goal.returns-in-317
unfolding xtime times mul powers inverse turn unaffine unsbox
returns-in-317 c = unsub-arm 317 _ c.in-317.is tt

pub returns-in-318 : goal.returns-in-318
unfolding xtime times mul powers inverse turn unaffine unsbox
returns-in-318 c = unsub-arm 318 _ c.in-318.is tt

pub returns-in-319 : goal.returns-in-319
unfolding xtime times mul powers inverse turn unaffine unsbox
returns-in-319 c = unsub-arm 319 _ c.in-319.is tt

pub returns-in-320 : goal.returns-in-320
unfolding xtime times mul powers inverse turn unaffine unsbox
returns-in-320 c = unsub-arm 320 _ c.in-320.is tt

pub returns-in-321 : goal.returns-in-321
unfolding xtime times mul powers inverse turn unaffine unsbox
returns-in-321 c = unsub-arm 321 _ c.in-321.is tt

pub returns-in-322 : goal.returns-in-322
unfolding xtime times mul powers inverse turn unaffine unsbox
returns-in-322 c = unsub-arm 322 _ c.in-322.is tt

pub returns-in-323 : goal.returns-in-323
unfolding xtime times mul powers inverse turn unaffine unsbox
returns-in-323 c = unsub-arm 323 _ c.in-323.is tt

pub returns-in-324 : goal.returns-in-324
unfolding xtime times mul powers inverse turn unaffine unsbox
returns-in-324 c = unsub-arm 324 _ c.in-324.is tt

pub returns-in-325 : goal.returns-in-325
unfolding xtime times mul powers inverse turn unaffine unsbox
returns-in-325 c = unsub-arm 325 _ c.in-325.is tt

pub returns-in-326 : goal.returns-in-326
unfolding xtime times mul powers inverse turn unaffine unsbox
returns-in-326 c = unsub-arm 326 _ c.in-326.is tt

pub returns-in-327 : goal.returns-in-327
unfolding xtime times mul powers inverse turn unaffine unsbox
returns-in-327 c = unsub-arm 327 _ c.in-327.is tt

pub returns-in-328 : goal.returns-in-328
unfolding xtime times mul powers inverse turn unaffine unsbox
returns-in-328 c = unsub-arm 328 _ c.in-328.is tt

pub returns-in-329 : goal.returns-in-329
unfolding xtime times mul powers inverse turn unaffine unsbox
returns-in-329 c = unsub-arm 329 _ c.in-329.is tt

pub returns-in-330 : goal.returns-in-330
unfolding xtime times mul powers inverse turn unaffine unsbox
returns-in-330 c = unsub-arm 330 _ c.in-330.is tt

pub returns-in-331 : goal.returns-in-331
unfolding xtime times mul powers inverse turn unaffine unsbox
returns-in-331 c = unsub-arm 331 _ c.in-331.is tt

pub returns-in-332 : goal.returns-in-332
unfolding xtime times mul powers inverse turn unaffine unsbox
returns-in-332 c = unsub-arm 332 _ c.in-332.is tt

pub returns-in-333 : goal.returns-in-333
unfolding xtime times mul powers inverse turn unaffine unsbox
returns-in-333 c = unsub-arm 333 _ c.in-333.is tt

pub returns-in-334 : goal.returns-in-334
unfolding xtime times mul powers inverse turn unaffine unsbox
returns-in-334 c = unsub-arm 334 _ c.in-334.is tt

pub returns-in-335 : goal.returns-in-335
unfolding xtime times mul powers inverse turn unaffine unsbox
returns-in-335 c = unsub-arm 335 _ c.in-335.is tt

pub returns-in-336 : goal.returns-in-336
unfolding xtime times mul powers inverse turn unaffine unsbox
returns-in-336 c = unsub-arm 336 _ c.in-336.is tt

pub returns-in-337 : goal.returns-in-337
unfolding xtime times mul powers inverse turn unaffine unsbox
returns-in-337 c = unsub-arm 337 _ c.in-337.is tt

pub returns-in-338 : goal.returns-in-338
unfolding xtime times mul powers inverse turn unaffine unsbox
returns-in-338 c = unsub-arm 338 _ c.in-338.is tt

pub returns-in-339 : goal.returns-in-339
unfolding xtime times mul powers inverse turn unaffine unsbox
returns-in-339 c = unsub-arm 339 _ c.in-339.is tt

pub returns-in-340 : goal.returns-in-340
unfolding xtime times mul powers inverse turn unaffine unsbox
returns-in-340 c = unsub-arm 340 _ c.in-340.is tt

pub returns-in-341 : goal.returns-in-341
unfolding xtime times mul powers inverse turn unaffine unsbox
returns-in-341 c = unsub-arm 341 _ c.in-341.is tt

pub returns-in-342 : goal.returns-in-342
unfolding xtime times mul powers inverse turn unaffine unsbox
returns-in-342 c = unsub-arm 342 _ c.in-342.is tt

pub returns-in-343 : goal.returns-in-343
unfolding xtime times mul powers inverse turn unaffine unsbox
returns-in-343 c = unsub-arm 343 _ c.in-343.is tt

pub returns-in-344 : goal.returns-in-344
unfolding xtime times mul powers inverse turn unaffine unsbox
returns-in-344 c = unsub-arm 344 _ c.in-344.is tt

pub returns-in-345 : goal.returns-in-345
unfolding xtime times mul powers inverse turn unaffine unsbox
returns-in-345 c = unsub-arm 345 _ c.in-345.is tt

pub returns-in-346 : goal.returns-in-346
unfolding xtime times mul powers inverse turn unaffine unsbox
returns-in-346 c = unsub-arm 346 _ c.in-346.is tt

pub returns-in-347 : goal.returns-in-347
unfolding xtime times mul powers inverse turn unaffine unsbox
returns-in-347 c = unsub-arm 347 _ c.in-347.is tt

pub returns-in-348 : goal.returns-in-348
unfolding xtime times mul powers inverse turn unaffine unsbox
returns-in-348 c = unsub-arm 348 _ c.in-348.is tt

pub returns-in-349 : goal.returns-in-349
unfolding xtime times mul powers inverse turn unaffine unsbox
returns-in-349 c = unsub-arm 349 _ c.in-349.is tt

pub returns-in-350 : goal.returns-in-350
unfolding xtime times mul powers inverse turn unaffine unsbox
returns-in-350 c = unsub-arm 350 _ c.in-350.is tt

pub returns-in-351 : goal.returns-in-351
unfolding xtime times mul powers inverse turn unaffine unsbox
returns-in-351 c = unsub-arm 351 _ c.in-351.is tt

pub returns-in-352 : goal.returns-in-352
unfolding xtime times mul powers inverse turn unaffine unsbox
returns-in-352 c = unsub-arm 352 _ c.in-352.is tt

pub returns-in-353 : goal.returns-in-353
unfolding xtime times mul powers inverse turn unaffine unsbox
returns-in-353 c = unsub-arm 353 _ c.in-353.is tt

pub returns-in-354 : goal.returns-in-354
unfolding xtime times mul powers inverse turn unaffine unsbox
returns-in-354 c = unsub-arm 354 _ c.in-354.is tt

pub returns-in-355 : goal.returns-in-355
unfolding xtime times mul powers inverse turn unaffine unsbox
returns-in-355 c = unsub-arm 355 _ c.in-355.is tt

pub returns-in-356 : goal.returns-in-356
unfolding xtime times mul powers inverse turn unaffine unsbox
returns-in-356 c = unsub-arm 356 _ c.in-356.is tt

pub returns-in-357 : goal.returns-in-357
unfolding xtime times mul powers inverse turn unaffine unsbox
returns-in-357 c = unsub-arm 357 _ c.in-357.is tt

pub returns-in-358 : goal.returns-in-358
unfolding xtime times mul powers inverse turn unaffine unsbox
returns-in-358 c = unsub-arm 358 _ c.in-358.is tt

pub returns-in-359 : goal.returns-in-359
unfolding xtime times mul powers inverse turn unaffine unsbox
returns-in-359 c = unsub-arm 359 _ c.in-359.is tt

pub returns-in-360 : goal.returns-in-360
unfolding xtime times mul powers inverse turn unaffine unsbox
returns-in-360 c = unsub-arm 360 _ c.in-360.is tt

pub returns-in-361 : goal.returns-in-361
unfolding xtime times mul powers inverse turn unaffine unsbox
returns-in-361 c = unsub-arm 361 _ c.in-361.is tt

pub returns-in-362 : goal.returns-in-362
unfolding xtime times mul powers inverse turn unaffine unsbox
returns-in-362 c = unsub-arm 362 _ c.in-362.is tt

pub returns-in-363 : goal.returns-in-363
unfolding xtime times mul powers inverse turn unaffine unsbox
returns-in-363 c = unsub-arm 363 _ c.in-363.is tt

pub returns-in-364 : goal.returns-in-364
unfolding xtime times mul powers inverse turn unaffine unsbox
returns-in-364 c = unsub-arm 364 _ c.in-364.is tt

pub returns-in-365 : goal.returns-in-365
unfolding xtime times mul powers inverse turn unaffine unsbox
returns-in-365 c = unsub-arm 365 _ c.in-365.is tt

pub returns-in-366 : goal.returns-in-366
unfolding xtime times mul powers inverse turn unaffine unsbox
returns-in-366 c = unsub-arm 366 _ c.in-366.is tt

pub returns-in-367 : goal.returns-in-367
unfolding xtime times mul powers inverse turn unaffine unsbox
returns-in-367 c = unsub-arm 367 _ c.in-367.is tt

pub returns-in-368 : goal.returns-in-368
unfolding xtime times mul powers inverse turn unaffine unsbox
returns-in-368 c = unsub-arm 368 _ c.in-368.is tt

pub returns-in-369 : goal.returns-in-369
unfolding xtime times mul powers inverse turn unaffine unsbox
returns-in-369 c = unsub-arm 369 _ c.in-369.is tt

pub returns-in-370 : goal.returns-in-370
unfolding xtime times mul powers inverse turn unaffine unsbox
returns-in-370 c = unsub-arm 370 _ c.in-370.is tt

pub returns-in-371 : goal.returns-in-371
unfolding xtime times mul powers inverse turn unaffine unsbox
returns-in-371 c = unsub-arm 371 _ c.in-371.is tt

pub returns-in-372 : goal.returns-in-372
unfolding xtime times mul powers inverse turn unaffine unsbox
returns-in-372 c = unsub-arm 372 _ c.in-372.is tt

pub returns-in-373 : goal.returns-in-373
unfolding xtime times mul powers inverse turn unaffine unsbox
returns-in-373 c = unsub-arm 373 _ c.in-373.is tt

pub returns-in-374 : goal.returns-in-374
unfolding xtime times mul powers inverse turn unaffine unsbox
returns-in-374 c = unsub-arm 374 _ c.in-374.is tt

pub returns-in-375 : goal.returns-in-375
unfolding xtime times mul powers inverse turn unaffine unsbox
returns-in-375 c = unsub-arm 375 _ c.in-375.is tt

pub returns-in-376 : goal.returns-in-376
unfolding xtime times mul powers inverse turn unaffine unsbox
returns-in-376 c = unsub-arm 376 _ c.in-376.is tt

pub returns-in-377 : goal.returns-in-377
unfolding xtime times mul powers inverse turn unaffine unsbox
returns-in-377 c = unsub-arm 377 _ c.in-377.is tt

pub returns-in-378 : goal.returns-in-378
unfolding xtime times mul powers inverse turn unaffine unsbox
returns-in-378 c = unsub-arm 378 _ c.in-378.is tt

pub returns-in-379 : goal.returns-in-379
unfolding xtime times mul powers inverse turn unaffine unsbox
returns-in-379 c = unsub-arm 379 _ c.in-379.is tt

pub returns-in-380 : goal.returns-in-380
unfolding xtime times mul powers inverse turn unaffine unsbox
returns-in-380 c = unsub-arm 380 _ c.in-380.is tt

pub returns-in-381 : goal.returns-in-381
unfolding xtime times mul powers inverse turn unaffine unsbox
returns-in-381 c = unsub-arm 381 _ c.in-381.is tt

pub returns-in-382 : goal.returns-in-382
unfolding xtime times mul powers inverse turn unaffine unsbox
returns-in-382 c = unsub-arm 382 _ c.in-382.is tt

pub returns-in-383 : goal.returns-in-383
unfolding xtime times mul powers inverse turn unaffine unsbox
returns-in-383 c = unsub-arm 383 _ c.in-383.is tt

pub returns-in-384 : goal.returns-in-384
unfolding xtime times mul powers inverse turn unaffine unsbox
returns-in-384 c = unsub-arm 384 _ c.in-384.is tt

pub returns-in-385 : goal.returns-in-385
unfolding xtime times mul powers inverse turn unaffine unsbox
returns-in-385 c = unsub-arm 385 _ c.in-385.is tt

pub returns-in-386 : goal.returns-in-386
unfolding xtime times mul powers inverse turn unaffine unsbox
returns-in-386 c = unsub-arm 386 _ c.in-386.is tt

pub returns-in-387 : goal.returns-in-387
unfolding xtime times mul powers inverse turn unaffine unsbox
returns-in-387 c = unsub-arm 387 _ c.in-387.is tt

pub returns-in-388 : goal.returns-in-388
unfolding xtime times mul powers inverse turn unaffine unsbox
returns-in-388 c = unsub-arm 388 _ c.in-388.is tt

pub returns-in-389 : goal.returns-in-389
unfolding xtime times mul powers inverse turn unaffine unsbox
returns-in-389 c = unsub-arm 389 _ c.in-389.is tt

pub returns-in-390 : goal.returns-in-390
unfolding xtime times mul powers inverse turn unaffine unsbox
returns-in-390 c = unsub-arm 390 _ c.in-390.is tt

pub returns-in-391 : goal.returns-in-391
unfolding xtime times mul powers inverse turn unaffine unsbox
returns-in-391 c = unsub-arm 391 _ c.in-391.is tt

pub returns-in-392 : goal.returns-in-392
unfolding xtime times mul powers inverse turn unaffine unsbox
returns-in-392 c = unsub-arm 392 _ c.in-392.is tt

pub returns-in-393 : goal.returns-in-393
unfolding xtime times mul powers inverse turn unaffine unsbox
returns-in-393 c = unsub-arm 393 _ c.in-393.is tt

pub returns-in-394 : goal.returns-in-394
unfolding xtime times mul powers inverse turn unaffine unsbox
returns-in-394 c = unsub-arm 394 _ c.in-394.is tt

pub returns-in-395 : goal.returns-in-395
unfolding xtime times mul powers inverse turn unaffine unsbox
returns-in-395 c = unsub-arm 395 _ c.in-395.is tt

pub returns-in-396 : goal.returns-in-396
unfolding xtime times mul powers inverse turn unaffine unsbox
returns-in-396 c = unsub-arm 396 _ c.in-396.is tt

pub returns-in-397 : goal.returns-in-397
unfolding xtime times mul powers inverse turn unaffine unsbox
returns-in-397 c = unsub-arm 397 _ c.in-397.is tt

pub returns-in-398 : goal.returns-in-398
unfolding xtime times mul powers inverse turn unaffine unsbox
returns-in-398 c = unsub-arm 398 _ c.in-398.is tt

pub returns-in-399 : goal.returns-in-399
unfolding xtime times mul powers inverse turn unaffine unsbox
returns-in-399 c = unsub-arm 399 _ c.in-399.is tt

pub returns-in-400 : goal.returns-in-400
unfolding xtime times mul powers inverse turn unaffine unsbox
returns-in-400 c = unsub-arm 400 _ c.in-400.is tt

pub returns-in-401 : goal.returns-in-401
unfolding xtime times mul powers inverse turn unaffine unsbox
returns-in-401 c = unsub-arm 401 _ c.in-401.is tt

pub returns-in-402 : goal.returns-in-402
unfolding xtime times mul powers inverse turn unaffine unsbox
returns-in-402 c = unsub-arm 402 _ c.in-402.is tt

pub returns-in-403 : goal.returns-in-403
unfolding xtime times mul powers inverse turn unaffine unsbox
returns-in-403 c = unsub-arm 403 _ c.in-403.is tt

pub returns-in-404 : goal.returns-in-404
unfolding xtime times mul powers inverse turn unaffine unsbox
returns-in-404 c = unsub-arm 404 _ c.in-404.is tt

pub returns-in-405 : goal.returns-in-405
unfolding xtime times mul powers inverse turn unaffine unsbox
returns-in-405 c = unsub-arm 405 _ c.in-405.is tt

pub returns-in-406 : goal.returns-in-406
unfolding xtime times mul powers inverse turn unaffine unsbox
returns-in-406 c = unsub-arm 406 _ c.in-406.is tt

pub returns-in-407 : goal.returns-in-407
unfolding xtime times mul powers inverse turn unaffine unsbox
returns-in-407 c = unsub-arm 407 _ c.in-407.is tt

pub returns-in-408 : goal.returns-in-408
unfolding xtime times mul powers inverse turn unaffine unsbox
returns-in-408 c = unsub-arm 408 _ c.in-408.is tt

pub returns-in-409 : goal.returns-in-409
unfolding xtime times mul powers inverse turn unaffine unsbox
returns-in-409 c = unsub-arm 409 _ c.in-409.is tt

pub returns-in-410 : goal.returns-in-410
unfolding xtime times mul powers inverse turn unaffine unsbox
returns-in-410 c = unsub-arm 410 _ c.in-410.is tt

pub returns-in-411 : goal.returns-in-411
unfolding xtime times mul powers inverse turn unaffine unsbox
returns-in-411 c = unsub-arm 411 _ c.in-411.is tt

pub returns-in-412 : goal.returns-in-412
unfolding xtime times mul powers inverse turn unaffine unsbox
returns-in-412 c = unsub-arm 412 _ c.in-412.is tt

pub returns-in-413 : goal.returns-in-413
unfolding xtime times mul powers inverse turn unaffine unsbox
returns-in-413 c = unsub-arm 413 _ c.in-413.is tt

pub returns-in-414 : goal.returns-in-414
unfolding xtime times mul powers inverse turn unaffine unsbox
returns-in-414 c = unsub-arm 414 _ c.in-414.is tt

pub returns-in-415 : goal.returns-in-415
unfolding xtime times mul powers inverse turn unaffine unsbox
returns-in-415 c = unsub-arm 415 _ c.in-415.is tt

pub returns-in-416 : goal.returns-in-416
unfolding xtime times mul powers inverse turn unaffine unsbox
returns-in-416 c = unsub-arm 416 _ c.in-416.is tt

pub returns-in-417 : goal.returns-in-417
unfolding xtime times mul powers inverse turn unaffine unsbox
returns-in-417 c = unsub-arm 417 _ c.in-417.is tt

pub returns-in-418 : goal.returns-in-418
unfolding xtime times mul powers inverse turn unaffine unsbox
returns-in-418 c = unsub-arm 418 _ c.in-418.is tt

pub returns-in-419 : goal.returns-in-419
unfolding xtime times mul powers inverse turn unaffine unsbox
returns-in-419 c = unsub-arm 419 _ c.in-419.is tt

pub returns-in-420 : goal.returns-in-420
unfolding xtime times mul powers inverse turn unaffine unsbox
returns-in-420 c = unsub-arm 420 _ c.in-420.is tt

pub returns-in-421 : goal.returns-in-421
unfolding xtime times mul powers inverse turn unaffine unsbox
returns-in-421 c = unsub-arm 421 _ c.in-421.is tt

pub returns-in-422 : goal.returns-in-422
unfolding xtime times mul powers inverse turn unaffine unsbox
returns-in-422 c = unsub-arm 422 _ c.in-422.is tt

pub returns-in-423 : goal.returns-in-423
unfolding xtime times mul powers inverse turn unaffine unsbox
returns-in-423 c = unsub-arm 423 _ c.in-423.is tt

pub returns-in-424 : goal.returns-in-424
unfolding xtime times mul powers inverse turn unaffine unsbox
returns-in-424 c = unsub-arm 424 _ c.in-424.is tt

pub returns-in-425 : goal.returns-in-425
unfolding xtime times mul powers inverse turn unaffine unsbox
returns-in-425 c = unsub-arm 425 _ c.in-425.is tt

pub returns-in-426 : goal.returns-in-426
unfolding xtime times mul powers inverse turn unaffine unsbox
returns-in-426 c = unsub-arm 426 _ c.in-426.is tt

pub returns-in-427 : goal.returns-in-427
unfolding xtime times mul powers inverse turn unaffine unsbox
returns-in-427 c = unsub-arm 427 _ c.in-427.is tt

pub returns-in-428 : goal.returns-in-428
unfolding xtime times mul powers inverse turn unaffine unsbox
returns-in-428 c = unsub-arm 428 _ c.in-428.is tt

pub returns-in-429 : goal.returns-in-429
unfolding xtime times mul powers inverse turn unaffine unsbox
returns-in-429 c = unsub-arm 429 _ c.in-429.is tt

pub returns-in-430 : goal.returns-in-430
unfolding xtime times mul powers inverse turn unaffine unsbox
returns-in-430 c = unsub-arm 430 _ c.in-430.is tt

pub returns-in-431 : goal.returns-in-431
unfolding xtime times mul powers inverse turn unaffine unsbox
returns-in-431 c = unsub-arm 431 _ c.in-431.is tt

pub returns-in-432 : goal.returns-in-432
unfolding xtime times mul powers inverse turn unaffine unsbox
returns-in-432 c = unsub-arm 432 _ c.in-432.is tt

pub returns-in-433 : goal.returns-in-433
unfolding xtime times mul powers inverse turn unaffine unsbox
returns-in-433 c = unsub-arm 433 _ c.in-433.is tt

pub returns-in-434 : goal.returns-in-434
unfolding xtime times mul powers inverse turn unaffine unsbox
returns-in-434 c = unsub-arm 434 _ c.in-434.is tt

pub returns-in-435 : goal.returns-in-435
unfolding xtime times mul powers inverse turn unaffine unsbox
returns-in-435 c = unsub-arm 435 _ c.in-435.is tt

pub returns-in-436 : goal.returns-in-436
unfolding xtime times mul powers inverse turn unaffine unsbox
returns-in-436 c = unsub-arm 436 _ c.in-436.is tt

pub returns-in-437 : goal.returns-in-437
unfolding xtime times mul powers inverse turn unaffine unsbox
returns-in-437 c = unsub-arm 437 _ c.in-437.is tt

pub returns-in-438 : goal.returns-in-438
unfolding xtime times mul powers inverse turn unaffine unsbox
returns-in-438 c = unsub-arm 438 _ c.in-438.is tt

pub returns-in-439 : goal.returns-in-439
unfolding xtime times mul powers inverse turn unaffine unsbox
returns-in-439 c = unsub-arm 439 _ c.in-439.is tt

pub returns-in-440 : goal.returns-in-440
unfolding xtime times mul powers inverse turn unaffine unsbox
returns-in-440 c = unsub-arm 440 _ c.in-440.is tt

pub returns-in-441 : goal.returns-in-441
unfolding xtime times mul powers inverse turn unaffine unsbox
returns-in-441 c = unsub-arm 441 _ c.in-441.is tt

pub returns-in-442 : goal.returns-in-442
unfolding xtime times mul powers inverse turn unaffine unsbox
returns-in-442 c = unsub-arm 442 _ c.in-442.is tt

pub returns-in-443 : goal.returns-in-443
unfolding xtime times mul powers inverse turn unaffine unsbox
returns-in-443 c = unsub-arm 443 _ c.in-443.is tt

pub returns-in-444 : goal.returns-in-444
unfolding xtime times mul powers inverse turn unaffine unsbox
returns-in-444 c = unsub-arm 444 _ c.in-444.is tt

pub returns-in-445 : goal.returns-in-445
unfolding xtime times mul powers inverse turn unaffine unsbox
returns-in-445 c = unsub-arm 445 _ c.in-445.is tt

pub returns-in-446 : goal.returns-in-446
unfolding xtime times mul powers inverse turn unaffine unsbox
returns-in-446 c = unsub-arm 446 _ c.in-446.is tt

pub returns-in-447 : goal.returns-in-447
unfolding xtime times mul powers inverse turn unaffine unsbox
returns-in-447 c = unsub-arm 447 _ c.in-447.is tt

pub returns-in-448 : goal.returns-in-448
unfolding xtime times mul powers inverse turn unaffine unsbox
returns-in-448 c = unsub-arm 448 _ c.in-448.is tt

pub returns-in-449 : goal.returns-in-449
unfolding xtime times mul powers inverse turn unaffine unsbox
returns-in-449 c = unsub-arm 449 _ c.in-449.is tt

pub returns-in-450 : goal.returns-in-450
unfolding xtime times mul powers inverse turn unaffine unsbox
returns-in-450 c = unsub-arm 450 _ c.in-450.is tt

pub returns-in-451 : goal.returns-in-451
unfolding xtime times mul powers inverse turn unaffine unsbox
returns-in-451 c = unsub-arm 451 _ c.in-451.is tt

pub returns-in-452 : goal.returns-in-452
unfolding xtime times mul powers inverse turn unaffine unsbox
returns-in-452 c = unsub-arm 452 _ c.in-452.is tt

pub returns-in-453 : goal.returns-in-453
unfolding xtime times mul powers inverse turn unaffine unsbox
returns-in-453 c = unsub-arm 453 _ c.in-453.is tt

pub returns-in-454 : goal.returns-in-454
unfolding xtime times mul powers inverse turn unaffine unsbox
returns-in-454 c = unsub-arm 454 _ c.in-454.is tt

pub returns-in-455 : goal.returns-in-455
unfolding xtime times mul powers inverse turn unaffine unsbox
returns-in-455 c = unsub-arm 455 _ c.in-455.is tt

pub returns-in-456 : goal.returns-in-456
unfolding xtime times mul powers inverse turn unaffine unsbox
returns-in-456 c = unsub-arm 456 _ c.in-456.is tt

pub returns-in-457 : goal.returns-in-457
unfolding xtime times mul powers inverse turn unaffine unsbox
returns-in-457 c = unsub-arm 457 _ c.in-457.is tt

pub returns-in-458 : goal.returns-in-458
unfolding xtime times mul powers inverse turn unaffine unsbox
returns-in-458 c = unsub-arm 458 _ c.in-458.is tt

pub returns-in-459 : goal.returns-in-459
unfolding xtime times mul powers inverse turn unaffine unsbox
returns-in-459 c = unsub-arm 459 _ c.in-459.is tt

pub returns-in-460 : goal.returns-in-460
unfolding xtime times mul powers inverse turn unaffine unsbox
returns-in-460 c = unsub-arm 460 _ c.in-460.is tt

pub returns-in-461 : goal.returns-in-461
unfolding xtime times mul powers inverse turn unaffine unsbox
returns-in-461 c = unsub-arm 461 _ c.in-461.is tt

pub returns-in-462 : goal.returns-in-462
unfolding xtime times mul powers inverse turn unaffine unsbox
returns-in-462 c = unsub-arm 462 _ c.in-462.is tt

pub returns-in-463 : goal.returns-in-463
unfolding xtime times mul powers inverse turn unaffine unsbox
returns-in-463 c = unsub-arm 463 _ c.in-463.is tt

pub returns-in-464 : goal.returns-in-464
unfolding xtime times mul powers inverse turn unaffine unsbox
returns-in-464 c = unsub-arm 464 _ c.in-464.is tt

pub returns-in-465 : goal.returns-in-465
unfolding xtime times mul powers inverse turn unaffine unsbox
returns-in-465 c = unsub-arm 465 _ c.in-465.is tt

pub returns-in-466 : goal.returns-in-466
unfolding xtime times mul powers inverse turn unaffine unsbox
returns-in-466 c = unsub-arm 466 _ c.in-466.is tt

pub returns-in-467 : goal.returns-in-467
unfolding xtime times mul powers inverse turn unaffine unsbox
returns-in-467 c = unsub-arm 467 _ c.in-467.is tt

pub returns-in-468 : goal.returns-in-468
unfolding xtime times mul powers inverse turn unaffine unsbox
returns-in-468 c = unsub-arm 468 _ c.in-468.is tt

pub returns-in-469 : goal.returns-in-469
unfolding xtime times mul powers inverse turn unaffine unsbox
returns-in-469 c = unsub-arm 469 _ c.in-469.is tt

pub returns-in-470 : goal.returns-in-470
unfolding xtime times mul powers inverse turn unaffine unsbox
returns-in-470 c = unsub-arm 470 _ c.in-470.is tt

pub returns-in-471 : goal.returns-in-471
unfolding xtime times mul powers inverse turn unaffine unsbox
returns-in-471 c = unsub-arm 471 _ c.in-471.is tt

pub returns-in-472 : goal.returns-in-472
unfolding xtime times mul powers inverse turn unaffine unsbox
returns-in-472 c = unsub-arm 472 _ c.in-472.is tt

pub returns-in-473 : goal.returns-in-473
unfolding xtime times mul powers inverse turn unaffine unsbox
returns-in-473 c = unsub-arm 473 _ c.in-473.is tt

pub returns-in-474 : goal.returns-in-474
unfolding xtime times mul powers inverse turn unaffine unsbox
returns-in-474 c = unsub-arm 474 _ c.in-474.is tt

pub returns-in-475 : goal.returns-in-475
unfolding xtime times mul powers inverse turn unaffine unsbox
returns-in-475 c = unsub-arm 475 _ c.in-475.is tt

pub returns-in-476 : goal.returns-in-476
unfolding xtime times mul powers inverse turn unaffine unsbox
returns-in-476 c = unsub-arm 476 _ c.in-476.is tt

pub returns-in-477 : goal.returns-in-477
unfolding xtime times mul powers inverse turn unaffine unsbox
returns-in-477 c = unsub-arm 477 _ c.in-477.is tt

pub returns-in-478 : goal.returns-in-478
unfolding xtime times mul powers inverse turn unaffine unsbox
returns-in-478 c = unsub-arm 478 _ c.in-478.is tt

pub returns-in-479 : goal.returns-in-479
unfolding xtime times mul powers inverse turn unaffine unsbox
returns-in-479 c = unsub-arm 479 _ c.in-479.is tt

pub returns-in-480 : goal.returns-in-480
unfolding xtime times mul powers inverse turn unaffine unsbox
returns-in-480 c = unsub-arm 480 _ c.in-480.is tt

pub returns-in-481 : goal.returns-in-481
unfolding xtime times mul powers inverse turn unaffine unsbox
returns-in-481 c = unsub-arm 481 _ c.in-481.is tt

pub returns-in-482 : goal.returns-in-482
unfolding xtime times mul powers inverse turn unaffine unsbox
returns-in-482 c = unsub-arm 482 _ c.in-482.is tt

pub returns-in-483 : goal.returns-in-483
unfolding xtime times mul powers inverse turn unaffine unsbox
returns-in-483 c = unsub-arm 483 _ c.in-483.is tt

pub returns-in-484 : goal.returns-in-484
unfolding xtime times mul powers inverse turn unaffine unsbox
returns-in-484 c = unsub-arm 484 _ c.in-484.is tt

pub returns-in-485 : goal.returns-in-485
unfolding xtime times mul powers inverse turn unaffine unsbox
returns-in-485 c = unsub-arm 485 _ c.in-485.is tt

pub returns-in-486 : goal.returns-in-486
unfolding xtime times mul powers inverse turn unaffine unsbox
returns-in-486 c = unsub-arm 486 _ c.in-486.is tt

pub returns-in-487 : goal.returns-in-487
unfolding xtime times mul powers inverse turn unaffine unsbox
returns-in-487 c = unsub-arm 487 _ c.in-487.is tt

pub returns-in-488 : goal.returns-in-488
unfolding xtime times mul powers inverse turn unaffine unsbox
returns-in-488 c = unsub-arm 488 _ c.in-488.is tt

pub returns-in-489 : goal.returns-in-489
unfolding xtime times mul powers inverse turn unaffine unsbox
returns-in-489 c = unsub-arm 489 _ c.in-489.is tt

pub returns-in-490 : goal.returns-in-490
unfolding xtime times mul powers inverse turn unaffine unsbox
returns-in-490 c = unsub-arm 490 _ c.in-490.is tt

pub returns-in-491 : goal.returns-in-491
unfolding xtime times mul powers inverse turn unaffine unsbox
returns-in-491 c = unsub-arm 491 _ c.in-491.is tt

pub returns-in-492 : goal.returns-in-492
unfolding xtime times mul powers inverse turn unaffine unsbox
returns-in-492 c = unsub-arm 492 _ c.in-492.is tt

pub returns-in-493 : goal.returns-in-493
unfolding xtime times mul powers inverse turn unaffine unsbox
returns-in-493 c = unsub-arm 493 _ c.in-493.is tt

pub returns-in-494 : goal.returns-in-494
unfolding xtime times mul powers inverse turn unaffine unsbox
returns-in-494 c = unsub-arm 494 _ c.in-494.is tt

pub returns-in-495 : goal.returns-in-495
unfolding xtime times mul powers inverse turn unaffine unsbox
returns-in-495 c = unsub-arm 495 _ c.in-495.is tt

pub returns-in-496 : goal.returns-in-496
unfolding xtime times mul powers inverse turn unaffine unsbox
returns-in-496 c = unsub-arm 496 _ c.in-496.is tt

pub returns-in-497 : goal.returns-in-497
unfolding xtime times mul powers inverse turn unaffine unsbox
returns-in-497 c = unsub-arm 497 _ c.in-497.is tt

pub returns-in-498 : goal.returns-in-498
unfolding xtime times mul powers inverse turn unaffine unsbox
returns-in-498 c = unsub-arm 498 _ c.in-498.is tt

pub returns-in-499 : goal.returns-in-499
unfolding xtime times mul powers inverse turn unaffine unsbox
returns-in-499 c = unsub-arm 499 _ c.in-499.is tt

pub returns-in-500 : goal.returns-in-500
unfolding xtime times mul powers inverse turn unaffine unsbox
returns-in-500 c = unsub-arm 500 _ c.in-500.is tt

pub returns-in-501 : goal.returns-in-501
unfolding xtime times mul powers inverse turn unaffine unsbox
returns-in-501 c = unsub-arm 501 _ c.in-501.is tt

pub returns-in-502 : goal.returns-in-502
unfolding xtime times mul powers inverse turn unaffine unsbox
returns-in-502 c = unsub-arm 502 _ c.in-502.is tt

pub returns-in-503 : goal.returns-in-503
unfolding xtime times mul powers inverse turn unaffine unsbox
returns-in-503 c = unsub-arm 503 _ c.in-503.is tt

pub returns-in-504 : goal.returns-in-504
unfolding xtime times mul powers inverse turn unaffine unsbox
returns-in-504 c = unsub-arm 504 _ c.in-504.is tt

pub returns-in-505 : goal.returns-in-505
unfolding xtime times mul powers inverse turn unaffine unsbox
returns-in-505 c = unsub-arm 505 _ c.in-505.is tt

pub returns-in-506 : goal.returns-in-506
unfolding xtime times mul powers inverse turn unaffine unsbox
returns-in-506 c = unsub-arm 506 _ c.in-506.is tt

pub returns-in-507 : goal.returns-in-507
unfolding xtime times mul powers inverse turn unaffine unsbox
returns-in-507 c = unsub-arm 507 _ c.in-507.is tt

pub returns-in-508 : goal.returns-in-508
unfolding xtime times mul powers inverse turn unaffine unsbox
returns-in-508 c = unsub-arm 508 _ c.in-508.is tt

pub returns-in-509 : goal.returns-in-509
unfolding xtime times mul powers inverse turn unaffine unsbox
returns-in-509 c = unsub-arm 509 _ c.in-509.is tt

pub returns-in-510 : goal.returns-in-510
unfolding xtime times mul powers inverse turn unaffine unsbox
returns-in-510 c = unsub-arm 510 _ c.in-510.is tt

pub returns-in_default : goal.returns-in_default
unfolding xtime times mul powers inverse turn unaffine unsbox
returns-in_default c =
    let e : c.args.x + 256 ≡ 511 = omega arith in
    unsub-arm 511 _ e tt
